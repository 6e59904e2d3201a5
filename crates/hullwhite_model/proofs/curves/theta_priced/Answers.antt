-- `hullwhite_model::theta_priced` meets its contract: each factor is found or the call is refused by rule 8, and then the formula is worked. Assumes nothing.
use Rattle.hullwhite_model.specs.Curves.{theta_priced}
use Rattle.curve.proofs.Outcomes.{lacking, found_is}
use Rattle.hullwhite_model.proofs.curves.theta_priced.Goals as goal

pub returns-in_default : goal.returns-in_default
unfolding theta_priced
returns-in_default c = lacking _ _ c.in_default.is c.factor.ensures

pub returns-in_default-factor : goal.returns-in_default-factor
unfolding theta_priced
returns-in_default-factor c =
    found_is _ _ c.in-Some.is c.factor.ensures (rw (← c.day.ensures) (lacking _ _ c.in_default-factor.is c.factor-2.ensures))

pub returns : goal.returns
unfolding theta_priced
returns c =
    found_is _ _ c.in-Some.is c.factor.ensures
    (rw (← c.day.ensures) (found_is _ _ c.in-Some-factor.is c.factor-2.ensures c.theta_from.ensures))
