-- Kinds 5, 10 and 11 with the work in the Rust's own place, for document 02, A.3: factors are fetched and A and B worked out inside each coupon of each evaluation of the coupon sum, at each sigma. A time without a factor turns the call down where it is asked for, by rule 8 (the Rust puts 0 for that A). Ladders, halvings and the other refusals are document 01's.
use Rattle.std.specs.Prelude.{◌≡◌, Bool, true, false, cond, ℕ, zero, suc, eqb, length, Float, None, Ok, Err}
use mathlib.Core.List.{List, [], ◌∷◌, Memᴰ}
use Rattle.std.specs.Float.Ieee.{is_nan, neg}
use Rattle.ieee.specs.Rounded.{◌⊕◌, ◌⊖◌, ◌⊗◌}
use Rattle.ieee.specs.Numbers as Numbers
use Rattle.ieee.specs.Fused.{fused_of}
use Rattle.math_elementary.specs.Simple.{midpoint_of}
use Rattle.math_exponential.specs.Exp.{exp_of}
use Rattle.refusals.specs.declared.refusals.Refusal.TheVariants as R
use Rattle.refusals.specs.Refusals.{Outcome, unless, following}
use Rattle.curve.specs.Lookups.{factor_at, needing}
use Rattle.hullwhite_formulas.specs.HullWhite.{h, b_of, zcb_price_of, zcb_price_volatility_of, bond_put_of}
use Rattle.hullwhite_model.specs.Curves.{with_a}
use Rattle.search.specs.declared.Bracket.{Bracket}
use Rattle.search.specs.Rate.{rate_at, good, bracket_moved_to}
use Rattle.search.specs.declared.Root.{Root}
use Rattle.hullwhite_terms.specs.Terms.{coefficients_of, factors_at}
use Rattle.hullwhite_jamshidian.specs.declared.price.Swaption.{Swaption}
use Rattle.hullwhite_jamshidian.specs.Price.{no_swaption, finishing_swaption}
use Rattle.hullwhite_swaptions.specs.Model.{model_rules_on}
use Rattle.math_bisection.specs.declared.result.Fit.{Fit}
use Rattle.math_bisection.specs.Result.{finishing_fit}
use Rattle.math_bisection.specs.Solve.{solve_of}
use Rattle.fit_objective.specs.declared.market.VolatilityType.{VolatilityType}
use Rattle.fit_objective.specs.Market.{swaption_market_price_of}
use Rattle.fit_objective.specs.Objective.{value_alone}
use Rattle.fit.specs.Fits.{swaption_rules_on}

-- ---- an evaluation of the coupon sum, the closure `eval` of `HullWhite::swaption_price`

-- the coupons left are added to a sum. For each A is asked, which looks up the factors at t, T and t + h, then coefficient × A × exp(-B × rate) is added
unfoldable pub evaluation_onto : Float → Float → List Float → List Float → Float → Float → List Float → List Float → Float → Outcome Float
evaluation_onto sum alpha ts fs t sigma [] payments rate = Ok sum
evaluation_onto sum alpha ts fs t sigma (c ∷ cs) [] rate = Ok sum
evaluation_onto sum alpha ts fs t sigma (c ∷ cs) (T ∷ payments) rate =
    with_a alpha ts fs t T sigma (b_of alpha t T) (λ a.
    evaluation_onto (sum ⊕ c ⊗ a ⊗ exp_of (neg (b_of alpha t T) ⊗ rate)) alpha ts fs t sigma cs payments rate)

-- at a rate, of any coefficients
unfoldable pub evaluation_of : Float → List Float → List Float → Float → Float → List Float → List Float → Float → Outcome Float
evaluation_of alpha ts fs t sigma coefficients payments rate = evaluation_onto Numbers.zero alpha ts fs t sigma coefficients payments rate

-- ---- the search over an evaluation that may be turned down, one evaluation after the other

-- 9: "A critical-rate evaluation .. that is reached is NaN"
unfoldable pub sum_at : (Float → Outcome Float) → Float → Outcome Float
sum_at evaluation rate = following (evaluation rate) (λ s. cond (is_nan s) (Err R.NanReached) (Ok s))

-- what a ladder comes to: its first good rung with the sum there, or none
pub data Climbed : Type 0 where
  at : ℕ → Float → Climbed
  none : Climbed

-- n rungs from rung i on: "The ladder is left from inside at the first good rate"
unfoldable pub climb_from : (Float → Outcome Float) → Bool → ℕ → ℕ → Outcome Climbed
climb_from evaluation below zero i = Ok none
climb_from evaluation below (suc n) i = following (sum_at evaluation (rate_at below i)) (λ s. cond (good below s) (Ok (at i s)) (climb_from evaluation below n (suc i)))

-- n halvings of a bracket: "a sum above 1 moves the lower end"
unfoldable pub halved_from : (Float → Outcome Float) → ℕ → Bracket → Outcome Bracket
halved_from evaluation zero b = Ok b
halved_from evaluation (suc n) b = let m = midpoint_of b.lower b.upper in following (sum_at evaluation m) (λ s. halved_from evaluation n (bracket_moved_to b m s))

-- "Then 200 halvings"; "The answer is the ends' midpoint". 10: "One of the two ladders has no good rate, both having been run"
unfoldable pub between_rungs : (Float → Outcome Float) → Climbed → Climbed → Outcome Root
between_rungs evaluation none none = Err R.NoBracket
between_rungs evaluation none (at j s') = Err R.NoBracket
between_rungs evaluation (at i s) none = Err R.NoBracket
between_rungs evaluation (at i s) (at j s') =
    following (halved_from evaluation 200 (record { lower = rate_at true i; upper = rate_at false j; lower_sum = s; upper_sum = s' })) (λ b.
    Ok (record { rate = midpoint_of b.lower b.upper; bracket = b; low_rung = i; high_rung = j }))

-- "i and j from 0 to 60": 61 rungs each, the lower ladder first
unfoldable pub search_over : (Float → Outcome Float) → Outcome Root
search_over evaluation =
    following (climb_from evaluation true 61 0) (λ low.
    following (climb_from evaluation false 61 0) (λ high.
    between_rungs evaluation low high))

-- ---- the price at a sigma

-- a coupon's put at the rate r: A again, and the lookups of `bond_put_price`
unfoldable pub put_looked : Float → List Float → List Float → Float → Float → Float → Float → Outcome Float
put_looked alpha ts fs t sigma r T =
    with_a alpha ts fs t T sigma (b_of alpha t T) (λ a.
    needing (factor_at ts fs t) (λ pt.
    needing (factor_at ts fs T) (λ p_t.
    Ok (bond_put_of (zcb_price_volatility_of alpha sigma t T) (zcb_price_of a (b_of alpha t T) r) pt p_t))))

-- coefficient × put + total, fused, over the coupons left
unfoldable pub puts_looked : Float → Float → List Float → List Float → Float → Float → Float → List Float → List Float → Outcome Float
puts_looked total alpha ts fs t sigma r [] payments = Ok total
puts_looked total alpha ts fs t sigma r (c ∷ cs) [] = Ok total
puts_looked total alpha ts fs t sigma r (c ∷ cs) (T ∷ payments) = following (put_looked alpha ts fs t sigma r T) (λ put. puts_looked (fused_of c put total) alpha ts fs t sigma r cs payments)

unfoldable pub price_as_written : Float → List Float → List Float → Float → Float → List Float → List Float → Outcome Swaption
price_as_written alpha ts fs t sigma coefficients payments =
    following (search_over (evaluation_of alpha ts fs t sigma coefficients payments)) (λ root.
    following (puts_looked Numbers.zero alpha ts fs t sigma root.rate coefficients payments) (λ value.
    Ok (record { value = value; root = root })))

-- ---- the calls

-- kind 5
unfoldable pub model_as_written : Float → List Float → List Float → List Float → List Float → Float → Float → Float → Outcome Swaption
model_as_written alpha ts fs payments accruals strike t sigma =
    unless (model_rules_on alpha ts fs payments accruals strike t sigma)
    (cond (eqb (length payments) 0) (Ok no_swaption) (following (price_as_written alpha ts fs t sigma (coefficients_of strike accruals) payments) finishing_swaption))

-- the lookups of `extract_calibration_params`: at each payment for the annuity, then at t. (That at the end is one of them.)
abbrev pub with_calibration_params : List Float → List Float → List Float → Float → (Float → List Float → Outcome Float) → Outcome Float
with_calibration_params ts fs payments t rest =
    following (factors_at ts fs payments) (λ ps.
    needing (factor_at ts fs t) (λ pt.
    rest pt ps))

-- `HwCalibrationObjective` at a sigma: the model's price, then the market's, each with these lookups before it
unfoldable pub objective_as_written : VolatilityType → Float → List Float → List Float → List Float → List Float → Float → Float → Float → Float → Outcome Float
objective_as_written quote alpha ts fs payments accruals strike t vol sigma =
    with_calibration_params ts fs payments t (λ pt ps.
    following (value_alone (price_as_written alpha ts fs t sigma (coefficients_of strike accruals) payments)) (λ model.
    with_calibration_params ts fs payments t (λ pt ps.
    Ok (model ⊖ swaption_market_price_of quote strike t vol accruals pt ps))))

-- kinds 10 and 11. (`calibrate_to_instruments` looks the same times up once more ahead of the bisection.)
unfoldable pub fit_as_written : VolatilityType → Float → List Float → List Float → List Float → List Float → Float → Float → Float → Outcome Fit
fit_as_written quote alpha ts fs payments accruals strike t vol =
    unless (swaption_rules_on quote alpha ts fs payments accruals strike t vol)
    (following (solve_of (objective_as_written quote alpha ts fs payments accruals strike t vol)) finishing_fit)

-- ---- the curve has no factor for a time that the call needs
pub data Misses (ts fs payments : List Float) (t : Float) : Type 0 where
  at_option : factor_at ts fs t ≡ None → Misses ts fs payments t
  day_after : factor_at ts fs (t ⊕ h) ≡ None → Misses ts fs payments t
  at_payment : (T : Float) → Memᴰ T payments → factor_at ts fs T ≡ None → Misses ts fs payments t
