-- How a fit comes out by its rules: turned down, or let through with lists that fit. Assumes nothing.
use Rattle.std.specs.Prelude.{Ok, Err}
use Rattle.std.specs.Result.{IsErrAnd}
use mathlib.Core.Path.{◌≡◌, sym}
use mathlib.Core.Bool.{Bool, true, not}
use mathlib.Core.List.{List}
use Prim.Native.Nat.{◌≤◌, ◌<◌}
use native.Mathlib.Omega.{arith}
use borrow.Author.Tests.{ltb-false, eqb-true, eqb-false, not-false}
use lib.Dec.{ltb, eqb}
use lib.ListN.{length}
use lib.Ieee.{Float}
use Rattle.refusals.specs.declared.curves.Faults.{Faults}
use Rattle.refusals.specs.declared.refusals.Refusal.{Refusal}
use Rattle.refusals.specs.declared.refusals.Rule.{Rule}
use Rattle.refusals.specs.declared.checks.Test.TheVariants.{Above}
use Rattle.refusals.specs.Refusals.{Outcome, first_of}
use Rattle.refusals.specs.Order.{none_applies}
use Rattle.refusals.specs.Checks.{in_order, all_of}
use Rattle.refusals.specs.Faults.{curve_faults, coupon_faults}
use Rattle.refusals.proofs.Outcomes.{neither, after_refusal, after_served}
use Rattle.refusals.proofs.CurveLaws.{curve_rises}
use Rattle.math_bisection.specs.declared.result.Fit.{Fit}
use Rattle.fit_objective.specs.declared.market.VolatilityType.{VolatilityType}
use Rattle.fit.specs.Fits.{caplet_rules, swaption_rules, swaption_rules_on, caplet_fitted, caplet_fit_outcome, swaption_fitted, swaption_fit_outcome}

-- ---- a caplet, on a curve whose faults are known
module _ (quote : VolatilityType) (alpha : Float) (ts fs : List Float) (strike t S vol : Float) {curve : Faults} (on : curve ≡ curve_faults ts fs) where
  pub caplet_turned_down : {q : Refusal} {gave : Outcome Fit} → Err q ≡ first_of (caplet_rules curve quote alpha strike t S vol) → IsErrAnd gave (λ r. r ≡ q) → gave ≡ caplet_fit_outcome quote alpha ts fs strike t S vol
  unfolding caplet_fit_outcome
  caplet_turned_down h = after_refusal _ (rw on at h)

  module _ (h : Ok tt ≡ first_of (caplet_rules curve quote alpha strike t S vol)) where
    pub caplet_let_through : {o : Outcome Fit} → o ≡ caplet_fitted quote alpha ts fs strike t S vol → o ≡ caplet_fit_outcome quote alpha ts fs strike t S vol
    unfolding caplet_fit_outcome
    caplet_let_through = after_served _ (rw on at h)

    -- by rule 4 the curve's times strictly rise
    pub caplet_rises : in_order true ts ≡ true
    caplet_rises = let none = (none_applies (caplet_rules (curve_faults ts fs) quote alpha strike t S vol)).0 (sym (rw on at h)) in curve_rises ts fs none.1.1.1.0

-- ---- a swaption
module _ (quote : VolatilityType) (alpha : Float) (ts fs payments accruals : List Float) (strike t vol : Float) {curve coupons : Faults} {later : Bool}
    (on : curve ≡ curve_faults ts fs) (over : coupons ≡ coupon_faults payments accruals) (all : later ≡ all_of (Above t) payments) where
  abbrev rules : List Rule
  rules = swaption_rules curve coupons later (eqb (length payments) 0) quote alpha strike t vol

  pub swaption_turned_down : {q : Refusal} {gave : Outcome Fit} → Err q ≡ first_of rules → IsErrAnd gave (λ r. r ≡ q) → gave ≡ swaption_fit_outcome quote alpha ts fs payments accruals strike t vol
  unfolding swaption_fit_outcome
  swaption_turned_down h = after_refusal _ (rw (on, over, all) at h)

  module _ (h : Ok tt ≡ first_of rules) where
    pub swaption_let_through : {o : Outcome Fit} → o ≡ swaption_fitted quote alpha ts fs payments accruals strike t vol → o ≡ swaption_fit_outcome quote alpha ts fs payments accruals strike t vol
    unfolding swaption_fit_outcome
    swaption_let_through = after_served _ (rw (on, over, all) at h)

    -- by rules 1 and 7 the coupons' lists are of one length, from 1 to 64; by rule 4 the curve's times strictly rise
    pub lists_fit : (0 < length payments) × (length payments ≤ 64) × (length accruals ≡ length payments) × (in_order true ts ≡ true)
    lists_fit =
        let none = (none_applies (swaption_rules_on quote alpha ts fs payments accruals strike t vol)).0 (sym (rw (on, over, all) at h)) in
        let size = neither (curve_faults ts fs).size (coupon_faults payments accruals).size none.0 in
        let both = neither (ltb 64 (length payments)) (not (eqb (length payments) (length accruals))) size.1 in
        let some = eqb-false (length payments) 0 none.1.1.1.1.1.1.0 in (
          omega arith,
          ltb-false 64 (length payments) both.0,
          sym (eqb-true (length payments) (length accruals) (not-false (eqb (length payments) (length accruals)) both.1)),
          curve_rises ts fs none.1.1.1.0,
        )
