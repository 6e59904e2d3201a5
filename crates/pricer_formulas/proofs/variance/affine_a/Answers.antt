-- `pricer_formulas::affine_a` meets its contract. Assumes nothing.
use Rattle.pricer_formulas.specs.Affine.{affine_aOf}
use Rattle.pricer_formulas.proofs.variance.affine_a.Goals as goal

pub returns : goal.returns
unfolding affine_aOf
returns c = rw (c.exp.ensures.value, c.ln.ensures.value)
