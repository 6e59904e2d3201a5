-- `hullwhite_model::forward_priced` meets its contract: each factor is found or the call is refused by rule 8, and then the formula is worked. Assumes nothing.
use mathlib.Core.Path.{ap, ◌∙◌}
use Rattle.refusals.specs.Refusals.{finishing}
use Rattle.hullwhite_model.specs.Curves.{forward_priced}
use Rattle.curve.proofs.Outcomes.{lacking, found_is}
use Rattle.hullwhite_model.proofs.curves.forward_priced.Goals as goal

pub returns-in_default : goal.returns-in_default
unfolding forward_priced
returns-in_default c = lacking _ _ c.in_default.is c.factor.ensures

pub returns-in_default-factor : goal.returns-in_default-factor
unfolding forward_priced
returns-in_default-factor c =
    found_is _ _ c.in-Some.is c.factor.ensures (rw (← c.day.ensures) (lacking _ _ c.in_default-factor.is c.factor-2.ensures))

pub returns : goal.returns
unfolding forward_priced
returns c =
    found_is _ _ c.in-Some.is c.factor.ensures
    (rw (← c.day.ensures) (found_is _ _ c.in-Some-factor.is c.factor-2.ensures (c.served.ensures ∙ ap finishing c.forward_of.ensures)))
