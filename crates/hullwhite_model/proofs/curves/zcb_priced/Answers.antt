-- `hullwhite_model::zcb_priced` meets its contract: A is found or the call is refused by rule 8, and then the formula is worked. Assumes nothing.
use mathlib.Core.Path.{refl, ap, ◌∙◌}
use lib.Ieee.{Float}
use Rattle.refusals.specs.Refusals.{Outcome, finishing}
use Rattle.refusals.specs.declared.refusals.Refusal.TheVariants as R
use Rattle.curve.proofs.Outcomes.{lacking, found_is}
use Rattle.hullwhite_formulas.specs.HullWhite.{zcb_price_of}
use Rattle.hullwhite_model.specs.Curves.{zcb_priced}
use Rattle.hullwhite_model.proofs.curves.zcb_priced.Goals as goal

pub returns-in_default : goal.returns-in_default
unfolding zcb_priced
returns-in_default c =
    let rest : Float → Outcome Float = λ a. finishing (zcb_price_of a c.b_of-b.result c.args.rate) in
    lacking _ rest c.in_default.is refl ∙ rw (← c.b_of-b.ensures) (c.a_found.ensures rest)

pub returns : goal.returns
unfolding zcb_priced
returns c =
    let rest : Float → Outcome Float = λ a. finishing (zcb_price_of a c.b_of-b.result c.args.rate) in
    found_is R.OffCurve rest c.in-Some.is refl (c.served.ensures ∙ ap finishing c.zcb_price_of.ensures) ∙ rw (← c.b_of-b.ensures) (c.a_found.ensures rest)
