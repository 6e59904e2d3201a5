-- Kinds 8 to 11: a fit of one volatility to a quote, on a curve of times ts and factors fs. Caplets: strike, start, end, quoted volatility. Swaptions: strike, option time, quoted volatility, over coupons of payment times and accruals.
use Rattle.std.specs.Prelude.{Bool, false, not, ◌&&◌, ◌||◌, List, [], ◌∷◌, eqb, length, Float}
use Rattle.std.specs.Float.Ieee.{le}
use Rattle.std.specs.Float.Ieee.Scale.{finite}
use Rattle.ieee.specs.Numbers.{zero}
use Rattle.refusals.specs.declared.curves.Faults.{Faults}
use Rattle.refusals.specs.declared.checks.Test.TheVariants.{Above}
use Rattle.refusals.specs.declared.refusals.Refusal.TheVariants as R
use Rattle.refusals.specs.declared.refusals.Rule.{Rule}
use Rattle.refusals.specs.Refusals.{Outcome, rule, unless, following}
use Rattle.refusals.specs.Checks.{all_of}
use Rattle.curve.specs.Lookups.{factor_at, needing}
use Rattle.refusals.specs.Faults.{curve_faults, coupon_faults}
use Rattle.hullwhite_terms.specs.Swaption.{with_factors}
use Rattle.math_bisection.specs.declared.result.Fit.{Fit}
use Rattle.math_bisection.specs.Result.{finishing_fit}
use Rattle.math_bisection.specs.Solve.{solve_of}
use Rattle.fit_objective.specs.declared.market.VolatilityType.{VolatilityType}
use Rattle.fit_objective.specs.declared.market.VolatilityType.TheVariants as Q
use Rattle.fit_objective.specs.Objective.{caplet_objective, swaption_objective}

-- "a Black strike is not above 0"; a normal one may have any sign
abbrev pub strike_wrong : VolatilityType → Float → Bool
strike_wrong Q.Black strike = le strike zero
strike_wrong Q.Normal strike = false

-- ---- rules 1 to 7, a line a rule. "a fit's option time is 0" is refused as one below it

abbrev pub caplet_rules : Faults → VolatilityType → Float → Float → Float → Float → Float → List Rule
caplet_rules curve quote alpha strike t S vol =
    rule R.Size curve.size
    ∷ rule R.NotFinite (curve.not_finite || not (finite alpha && finite strike && finite t && finite S && finite vol))
    ∷ rule R.MeanReversion (le alpha zero)
    ∷ rule R.Order curve.order
    ∷ rule R.Times (le t zero || le S t)
    ∷ rule R.Domain (le vol zero || strike_wrong quote strike || curve.domain)
    ∷ []

-- `later`: every payment time is above the option time; `empty`: there are no coupons
abbrev pub swaption_rules : Faults → Faults → Bool → Bool → VolatilityType → Float → Float → Float → Float → List Rule
swaption_rules curve coupons later empty quote alpha strike t vol =
    rule R.Size (curve.size || coupons.size)
    ∷ rule R.NotFinite (curve.not_finite || coupons.not_finite || not (finite alpha && finite strike && finite t && finite vol))
    ∷ rule R.MeanReversion (le alpha zero)
    ∷ rule R.Order curve.order
    ∷ rule R.Times (le t zero || not later)
    ∷ rule R.Domain (le vol zero || strike_wrong quote strike || curve.domain)
    ∷ rule R.Empty empty
    ∷ []

abbrev pub swaption_rules_on : VolatilityType → Float → List Float → List Float → List Float → List Float → Float → Float → Float → List Rule
swaption_rules_on quote alpha ts fs payments accruals strike t vol =
    swaption_rules (curve_faults ts fs) (coupon_faults payments accruals) (all_of (Above t) payments) (eqb (length payments) 0) quote alpha strike t vol

-- ---- the fits: "8 to 12 in the order of its evaluations", then 13

-- a caplet that the rules let through: the factors at its start and its end, and the bisection
unfoldable pub caplet_fitted : VolatilityType → Float → List Float → List Float → Float → Float → Float → Float → Outcome Fit
caplet_fitted quote alpha ts fs strike t S vol =
    needing (factor_at ts fs t) (λ pt.
    needing (factor_at ts fs S) (λ p_s.
    following (solve_of (caplet_objective quote alpha strike t S vol pt p_s)) finishing_fit))

unfoldable pub caplet_fit_outcome : VolatilityType → Float → List Float → List Float → Float → Float → Float → Float → Outcome Fit
caplet_fit_outcome quote alpha ts fs strike t S vol = unless (caplet_rules (curve_faults ts fs) quote alpha strike t S vol) (caplet_fitted quote alpha ts fs strike t S vol)

-- a swaption that the rules let through: the factors at t, t + h and the payment times, and the bisection. Fetching them anew in each evaluation at each sigma has the same outcome (document 02, A.3): `kinds_ten_and_eleven` of `requests`
unfoldable pub swaption_fitted : VolatilityType → Float → List Float → List Float → List Float → List Float → Float → Float → Float → Outcome Fit
swaption_fitted quote alpha ts fs payments accruals strike t vol =
    with_factors ts fs payments t (λ pt p_plus ps.
    following (solve_of (swaption_objective quote alpha payments accruals strike t vol pt p_plus ps)) finishing_fit)

unfoldable pub swaption_fit_outcome : VolatilityType → Float → List Float → List Float → List Float → List Float → Float → Float → Float → Outcome Fit
swaption_fit_outcome quote alpha ts fs payments accruals strike t vol =
    unless (swaption_rules_on quote alpha ts fs payments accruals strike t vol) (swaption_fitted quote alpha ts fs payments accruals strike t vol)
