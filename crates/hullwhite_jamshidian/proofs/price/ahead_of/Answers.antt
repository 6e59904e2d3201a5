-- `hullwhite_jamshidian::price::ahead_of` meets its contract. Assumes nothing.
use Rattle.hullwhite_formulas.specs.HullWhite.{state_deviation_ahead}
use Rattle.hullwhite_jamshidian.proofs.price.ahead_of.Goals as goal

pub returns : goal.returns
returns c = rw (c.state_deviation_at.ensures, c.stationary_share_of-share.ensures, state_deviation_ahead _ _)
