-- `hullwhite_formulas::b_of` meets its contract. Assumes nothing.
use Rattle.hullwhite_formulas.specs.HullWhite.{b_of}
use Rattle.hullwhite_formulas.proofs.hullwhite.b_of.Goals as goal

pub returns : goal.returns
unfolding b_of
returns c = rw c.exp.ensures.value
