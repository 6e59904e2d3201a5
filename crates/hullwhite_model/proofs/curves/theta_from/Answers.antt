-- `hullwhite_model::theta_from` meets its contract: the test of t against a day picks the third factor, which is found or refused by rule 8. Assumes nothing.
use Rattle.hullwhite_model.specs.Curves.{theta_from}
use Rattle.curve.proofs.Outcomes.{lacking, found_is}
use Rattle.hullwhite_model.proofs.curves.theta_from.Goals as goal

pub returns-in_default : goal.returns-in_default
unfolding theta_from
returns-in_default c =
    rw (← c.day-h.ensures, c.if-t-h.true) (lacking _ _ c.in_default.is c.factor.ensures)

pub returns-in_default-factor : goal.returns-in_default-factor
unfolding theta_from
returns-in_default-factor c =
    rw (← c.day-h.ensures, c.if-t-h.false, ← c.fused.ensures) (lacking _ _ c.in_default-factor.is c.factor-else-t-h.ensures)

pub returns-in-Some : goal.returns-in-Some
unfolding theta_from
returns-in-Some c =
    rw (← c.day-h.ensures, c.if-t-h.true)
    (found_is _ _ c.in-Some.is c.factor.ensures
    (rw (← c.forward_of-forward.ensures, ← c.forward_of.ensures, ← c.forward_slope_of-slope.ensures, ← c.theta_of.ensures) c.served.ensures))

pub returns-in-Some-factor : goal.returns-in-Some-factor
unfolding theta_from
returns-in-Some-factor c =
    rw (← c.day-h.ensures, c.if-t-h.false, ← c.fused.ensures)
    (found_is _ _ c.in-Some-factor.is c.factor-else-t-h.ensures
    (rw (← c.forward_of-forward.ensures, ← c.forward_of-else-t-h.ensures, ← c.forward_slope_of-slope-else-t-h.ensures, ← c.theta_of-else-t-h.ensures) c.served-else-t-h.ensures))
