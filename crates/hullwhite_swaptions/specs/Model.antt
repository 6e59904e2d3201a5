-- Kind 5: the model's swaption on a curve of times ts and factors fs, with coupons of payment times and accruals: strike, option time, sigma.
use Rattle.std.specs.Prelude.{Bool, not, ◌&&◌, ◌||◌, cond, List, [], ◌∷◌, eqb, length, Float, Ok}
use Rattle.std.specs.Float.Ieee.{lt, le}
use Rattle.std.specs.Float.Ieee.Scale.{finite}
use Rattle.ieee.specs.Numbers.{zero}
use Rattle.refusals.specs.declared.curves.Faults.{Faults}
use Rattle.refusals.specs.declared.checks.Test.TheVariants.{Above}
use Rattle.refusals.specs.declared.refusals.Refusal.TheVariants as R
use Rattle.refusals.specs.declared.refusals.Rule.{Rule}
use Rattle.refusals.specs.Refusals.{Outcome, rule, unless, following}
use Rattle.refusals.specs.Checks.{all_of}
use Rattle.refusals.specs.Faults.{curve_faults, coupon_faults}
use Rattle.hullwhite_terms.specs.Swaption.{with_factors}
use Rattle.hullwhite_jamshidian.specs.declared.price.Swaption.{Swaption}
use Rattle.hullwhite_jamshidian.specs.Price.{no_swaption, price_at, finishing_swaption}

-- rules 1 to 7, a line a rule; `later`: every payment time is above the option time. Rule 7 lets kind 5 have no coupons
abbrev pub model_rules : Faults → Faults → Bool → Float → Float → Float → Float → List Rule
model_rules curve coupons later alpha strike t sigma =
    rule R.Size (curve.size || coupons.size)
    ∷ rule R.NotFinite (curve.not_finite || coupons.not_finite || not (finite alpha && finite strike && finite t && finite sigma))
    ∷ rule R.MeanReversion (le alpha zero)
    ∷ rule R.Order curve.order
    ∷ rule R.Times (lt t zero || not later)
    ∷ rule R.Domain (lt sigma zero || curve.domain)
    ∷ []

-- the rules on a call's own lists and numbers
abbrev pub model_rules_on : Float → List Float → List Float → List Float → List Float → Float → Float → Float → List Rule
model_rules_on alpha ts fs payments accruals strike t sigma = model_rules (curve_faults ts fs) (coupon_faults payments accruals) (all_of (Above t) payments) alpha strike t sigma

-- the terms and the price, on the factors pt at t, p_plus at t + h, and ps at the payment times
unfoldable pub terms_priced : Float → List Float → List Float → Float → Float → Float → Float → Float → List Float → Outcome Swaption
terms_priced alpha payments accruals strike t sigma pt p_plus ps = following (price_at alpha payments accruals strike t pt p_plus ps sigma) finishing_swaption

-- the factors at t, t + h and the payment times, then the terms and the price. Fetching and working them anew in each evaluation has the same outcome (document 02, A.3): `kind_five` of `requests`
unfoldable pub model_priced : Float → List Float → List Float → List Float → List Float → Float → Float → Float → Outcome Swaption
model_priced alpha ts fs payments accruals strike t sigma =
    with_factors ts fs payments t (λ pt p_plus ps. terms_priced alpha payments accruals strike t sigma pt p_plus ps)

-- "Kind 5 with no coupons is 0 and needs no time; its rungs, rates and sums are 0."
unfoldable pub model_outcome : Float → List Float → List Float → List Float → List Float → Float → Float → Float → Outcome Swaption
model_outcome alpha ts fs payments accruals strike t sigma =
    unless (model_rules_on alpha ts fs payments accruals strike t sigma)
    (cond (eqb (length payments) 0) (Ok no_swaption) (model_priced alpha ts fs payments accruals strike t sigma))
