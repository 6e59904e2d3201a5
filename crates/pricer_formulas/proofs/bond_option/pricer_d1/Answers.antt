-- `pricer_formulas::pricer_d1` meets its contract. Assumes nothing.
use Rattle.pricer_formulas.specs.BondOption.{pricer_d1_of}
use Rattle.pricer_formulas.proofs.bond_option.pricer_d1.Goals as goal

pub returns : goal.returns
unfolding pricer_d1_of
returns c = rw c.ln.ensures.value
