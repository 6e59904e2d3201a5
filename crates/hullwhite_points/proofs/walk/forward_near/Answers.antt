-- `hullwhite_points::walk::forward_near` meets its contract: both factors are found, or one of them is not. Assumes nothing.
use Rattle.curve.proofs.Outcomes.{at, missing}
use Rattle.hullwhite_points.specs.Walk.{forward_at}
use Rattle.hullwhite_points.proofs.walk.forward_near.Goals as goal

pub returns-in_default : goal.returns-in_default
unfolding forward_at
returns-in_default c = rw (missing _ c.in_default.is c.factor_near.ensures)

pub returns-in_default-factor_near : goal.returns-in_default-factor_near
unfolding forward_at
returns-in_default-factor_near c =
    rw (at _ c.in-Some.is c.factor_near.ensures, ← c.day.ensures, missing _ c.in_default-factor_near.is c.factor_near-2.ensures)

pub returns : goal.returns
unfolding forward_at
returns c =
    rw (at _ c.in-Some.is c.factor_near.ensures, ← c.day.ensures, at _ c.in-Some-factor_near.is c.factor_near-2.ensures, c.forward_of.ensures)
