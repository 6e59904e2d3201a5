-- Kinds 6 and 7: `swaption_value`, payer or receiver, on pillars (times pls, volatilities ss), a curve (times ts, factors fs) and coupons (payment times, accruals, own factors): strike, option time, notional, side.
use Rattle.std.specs.Prelude.{Bool, false, not, ◌&&◌, ◌||◌, List, [], ◌∷◌, eqb, length, Float}
use Rattle.std.specs.Float.Ieee.{neg, lt, le, ne}
use Rattle.std.specs.Float.Ieee.Scale.{finite}
use Rattle.ieee.specs.Numbers.{zero, one}
use Rattle.refusals.specs.declared.curves.Faults.{Faults}
use Rattle.refusals.specs.declared.checks.Test.TheVariants.{Finite, Zero, Above}
use Rattle.refusals.specs.declared.refusals.Refusal.TheVariants as R
use Rattle.refusals.specs.declared.refusals.Rule.{Rule}
use Rattle.refusals.specs.Refusals.{Outcome, rule, unless}
use Rattle.refusals.specs.Checks.{all_of}
use Rattle.refusals.specs.Faults.{curve_faults, pillar_faults, coupon_faults}
use Rattle.pricer_formulas.specs.declared.bond_option.SwaptionType.{SwaptionType}
use Rattle.pricer_value.specs.declared.value.Valuation.{Valuation}
use Rattle.pricer_value.specs.Value.{swaption_priced}

-- ---- rules 1 to 7, a line a rule

-- "a coupon's own factor is negative or is 0 beside one that is not": own factors fit where all are 0 or all above 0
abbrev pub own_fits : List Float → Bool
own_fits owns = all_of Zero owns || all_of (Above zero) owns

-- own factors beside the payments. 1: they differ in number. 2: one is NaN or infinite. 6: they do not fit
abbrev pub own_faults : List Float → List Float → Faults
own_faults payments owns = record {
  size = not (eqb (length payments) (length owns));
  not_finite = not (all_of Finite owns);
  order = false;
  domain = not (own_fits owns);
}

-- `later`: every payment time is above the option time; `empty`: no coupons. Document 02, A.2: "Refusal 7 no longer covers pillars in those kinds"
abbrev pub pricer_rules : Faults → Faults → Faults → Faults → Bool → Bool → Float → Float → Float → Float → Float → List Rule
pricer_rules curve schedule coupons own later empty alpha strike t notional side =
    rule R.Size (curve.size || schedule.size || coupons.size || own.size)
    ∷ rule R.NotFinite (curve.not_finite || schedule.not_finite || coupons.not_finite || own.not_finite || not (finite alpha && finite strike && finite t && finite notional && finite side))
    ∷ rule R.MeanReversion (le alpha zero)
    ∷ rule R.Order (curve.order || schedule.order)
    ∷ rule R.Times (lt t zero || not later)
    ∷ rule R.Domain (schedule.domain || curve.domain || own.domain || (ne side one && ne side (neg one)))
    ∷ rule R.Empty empty
    ∷ []

-- the rules on a call's own lists and numbers
abbrev pub pricer_rules_on : Float → List Float → List Float → List Float → List Float → List Float → List Float → List Float → Float → Float → Float → Float → List Rule
pricer_rules_on alpha pls ss ts fs payments accruals owns strike t notional side =
    pricer_rules (curve_faults ts fs) (pillar_faults pls ss) (coupon_faults payments accruals) (own_faults payments owns) (all_of (Above t) payments)
    (eqb (length payments) 0) alpha strike t notional side

-- ---- the rules, then the value

unfoldable pub pricer_outcome : SwaptionType → Float → List Float → List Float → List Float → List Float → List Float → List Float → List Float → Float → Float → Float → Float → Outcome Valuation
pricer_outcome option alpha pls ss ts fs payments accruals owns strike t notional side =
    unless (pricer_rules_on alpha pls ss ts fs payments accruals owns strike t notional side) (swaption_priced option alpha pls ss ts fs payments accruals owns strike t notional side)
