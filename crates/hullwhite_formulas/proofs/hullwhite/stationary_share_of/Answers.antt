-- `hullwhite_formulas::stationary_share_of` meets its contract. Assumes nothing.
use Rattle.hullwhite_formulas.specs.HullWhite.{stationary_share_of}
use Rattle.hullwhite_formulas.proofs.hullwhite.stationary_share_of.Goals as goal

pub returns : goal.returns
unfolding stationary_share_of
returns c = rw c.exp.ensures.value
