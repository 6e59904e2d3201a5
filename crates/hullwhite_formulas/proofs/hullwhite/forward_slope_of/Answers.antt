-- `hullwhite_formulas::forward_slope_of` meets its contract. Assumes nothing.
use Rattle.hullwhite_formulas.specs.HullWhite.{slope_of}
use Rattle.hullwhite_formulas.proofs.hullwhite.forward_slope_of.Goals as goal

pub returns : goal.returns
unfolding slope_of
returns c = rw c.day.ensures
