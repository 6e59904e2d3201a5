-- `hullwhite_formulas::state_deviation_of` meets its contract. Assumes nothing.
use Rattle.hullwhite_formulas.specs.HullWhite.{state_deviation_ahead}
use Rattle.hullwhite_formulas.proofs.hullwhite.state_deviation_of.Goals as goal

pub returns : goal.returns
returns c = rw (c.state_deviation_at.ensures, c.stationary_share_of.ensures) (state_deviation_ahead _ _)
