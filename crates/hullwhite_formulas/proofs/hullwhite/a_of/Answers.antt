-- `hullwhite_formulas::a_of` meets its contract. Assumes nothing.
use Rattle.hullwhite_formulas.specs.HullWhite.{a_ahead}
use Rattle.hullwhite_formulas.proofs.hullwhite.a_of.Goals as goal

pub returns : goal.returns
returns c = rw (c.a_at.ensures, c.half_variance_of-half_variance.ensures, c.stationary_share_of.ensures, c.curve_part_of-curve_part.ensures) (a_ahead _ _ _ _ _ _ _)
