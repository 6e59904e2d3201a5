-- `hullwhite_model::a_priced` meets its contract: A is found or the call is refused by rule 8. Assumes nothing.
use mathlib.Core.Path.{refl, ◌∙◌}
use Rattle.refusals.specs.Refusals.{finishing}
use Rattle.refusals.specs.declared.refusals.Refusal.TheVariants as R
use Rattle.curve.proofs.Outcomes.{lacking, found_is}
use Rattle.hullwhite_model.specs.Curves.{a_priced}
use Rattle.hullwhite_model.proofs.curves.a_priced.Goals as goal

pub returns-in_default : goal.returns-in_default
unfolding a_priced
returns-in_default c =
    lacking _ finishing c.in_default.is refl ∙ rw (← c.b_of-b.ensures) (c.a_found.ensures finishing)

pub returns : goal.returns
unfolding a_priced
returns c =
    found_is R.OffCurve finishing c.in-Some.is refl c.served.ensures ∙ rw (← c.b_of-b.ensures) (c.a_found.ensures finishing)
