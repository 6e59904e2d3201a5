-- What each call that searches or fits evaluates, in order: kinds 5 to 11, and the fits of a basket's entries (the calls themselves: proofs/Searches.antt).
use Rattle.std.specs.Prelude.{Bool, not, List, [], ◌∷◌, drop, Float, Ok, Err}
use Rattle.std.proofs.Math.Bool.{cond}
use Rattle.std.specs.Float.Ieee.Scale.{finite}
use Rattle.ieee.specs.Rounded.{◌⊕◌, ◌⊗◌}
use Rattle.ieee.specs.Numbers.{zero}
use Rattle.refusals.specs.declared.checks.Test.TheVariants.{Zero}
use Rattle.refusals.specs.declared.refusals.Refusal.TheVariants as R
use Rattle.refusals.specs.Refusals.{Outcome, following}
use Rattle.refusals.specs.Checks.{all_of}
use Rattle.hullwhite_formulas.specs.HullWhite.{h, forward_of}
use Rattle.hullwhite_parameters.specs.Variance.{piecewise_variance_of}
use Rattle.search_sum.specs.Sum.{coupon_sum}
use Rattle.search.specs.Rate.{critical_of}
use Rattle.search.specs.Values.{critical_outcome}
use Rattle.hullwhite_terms.specs.Terms.{coefficients_of, bs_of}
use Rattle.hullwhite_jamshidian.specs.Price as Model
use Rattle.hullwhite_jamshidian.specs.Price.{price_at, finishing_swaption}
use Rattle.pricer_formulas.specs.declared.bond_option.SwaptionType.{SwaptionType}
use Rattle.pricer_formulas.specs.Affine.{pricer_deviation_of, affine_aList_of}
use Rattle.pricer_formulas.specs.Newton.{sums_of, stepped}
use Rattle.pricer_formulas.specs.Components.{components_of}
use Rattle.pricer_critical_rate.specs.declared.implicit.ImplicitRate.{ImplicitRate}
use Rattle.pricer_value.specs.declared.value.Valuation.{Valuation}
use Rattle.math_bisection.specs.declared.result.Fit.{Fit}
use Rattle.math_bisection.specs.Result.{finishing_fit}
use Rattle.math_bisection.specs.Solve.{solve_of}
use Rattle.fit_objective.specs.declared.market.VolatilityType.{VolatilityType}
use Rattle.fit_objective.specs.Objective.{caplet_objective, swaption_objective}
use Rattle.basket_entries.specs.Entries.{Entry}
use Rattle.basket.specs.Basket.{diagonal_of}
use Rattle.demand_order.specs.Steps.{nth}
use Rattle.hullwhite_jamshidian.specs.declared.price.Swaption.{Swaption}

-- ---- kind 5
module _ (alpha : Float) (ts fs payments accruals : List Float) (strike t sigma : Float) where
  -- "Kind 5 with no coupons is 0 and needs no time": `none` says that there are none
  abbrev pub model_times : Bool → List Float
  model_times none = cond none [] (t ∷ (t ⊕ h) ∷ payments)

  abbrev pub model_valued : Bool → List Float → Outcome Swaption
  model_valued none ps = cond none (Ok Model.no_swaption) (price_at alpha payments accruals strike t (nth 0 ps) (nth 1 ps) (drop 2 ps) sigma)

-- ---- kinds 6 and 7

-- the search, whose refusals are 9 and 10, then the Newton step, whose refusal is 11
abbrev pub search_and_step : SwaptionType → Float → Float → List Float → List Float → List Float → List Float → List Float → Float → Float → Outcome Valuation
search_and_step option deviation pt cs affs bs ps owns notional side =
    following (critical_outcome (critical_of (coupon_sum cs affs bs))) (λ root.
    following (stepped root.rate (sums_of root.rate cs affs bs)) (λ s.
    Ok (record { value = components_of option (not (all_of Zero owns)) deviation pt s cs affs bs ps owns ⊗ notional ⊗ side; after_step = s; root = root })))

module _ (option : SwaptionType) (alpha : Float) (pls ss ts fs payments accruals owns : List Float) (strike t notional side : Float) where
  -- on the factors found at t, t + h and the payment times
  abbrev pub pricer_valued : List Float → Outcome Valuation
  pricer_valued qs =
      let pt = nth 0 qs in
      let ps = drop 2 qs in
      let variance = piecewise_variance_of alpha pls ss zero t in
      let bs = bs_of alpha t payments in
      search_and_step option (pricer_deviation_of variance) pt (coefficients_of strike accruals) (affine_aList_of variance (forward_of pt (nth 1 qs)) pt bs ps) bs ps owns notional side

-- ---- the critical rate as calls: the search, then the Newton step
abbrev pub rate_and_step : List Float → List Float → List Float → Outcome ImplicitRate
rate_and_step cs affs bs =
    following (critical_outcome (critical_of (coupon_sum cs affs bs))) (λ root.
    following (stepped root.rate (sums_of root.rate cs affs bs)) (λ s. Ok (record { after_step = s; root = root })))

-- ---- kinds 8 and 9
module _ (quote : VolatilityType) (alpha : Float) (ts fs : List Float) (strike t S vol : Float) where
  abbrev pub caplet_solved : List Float → Outcome Fit
  caplet_solved ps = solve_of (caplet_objective quote alpha strike t S vol (nth 0 ps) (nth 1 ps))

-- ---- kinds 10 and 11
module _ (quote : VolatilityType) (alpha : Float) (ts fs payments accruals : List Float) (strike t vol : Float) where
  abbrev pub swaption_solved : List Float → Outcome Fit
  swaption_solved ps = solve_of (swaption_objective quote alpha payments accruals strike t vol (nth 0 ps) (nth 1 ps) (drop 2 ps))

-- ---- a basket's entry, its bumped fit
module _ (alpha : Float) (xs fs : List Float) (e : Entry) where
  -- the fit's floats, then the diagonal's
  abbrev pub finishing_bump : Float → Fit → Outcome Fit
  finishing_bump sigma fit = following (finishing_fit fit) (λ v. cond (finite (diagonal_of v.sigma sigma)) (Ok v) (Err R.Overflow))
