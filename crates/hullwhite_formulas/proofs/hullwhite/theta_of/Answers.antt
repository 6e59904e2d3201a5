-- `hullwhite_formulas::theta_of` meets its contract. Assumes nothing.
use Rattle.hullwhite_formulas.specs.HullWhite.{stationary_share_of, theta_of}
use Rattle.hullwhite_formulas.proofs.hullwhite.theta_of.Goals as goal

pub returns : goal.returns
unfolding theta_of stationary_share_of
returns c = rw (c.fused.ensures, c.stationary_share_of.ensures, c.fused-drift.ensures)
