-- What a swaption comes to by its rules: turned down, or let through with lists that fit. Assumes nothing.
use Rattle.std.specs.Prelude.{Ok, Err}
use mathlib.Core.Path.{◌≡◌, sym, ◌∙◌}
use mathlib.Core.Bool.{Bool, true, not, ◌||◌}
use mathlib.Core.List.{List}
use Prim.Native.Nat.{◌≤◌}
use borrow.Author.Tests.{ltb-false, eqb-true, not-false}
use lib.Dec.{ltb, eqb}
use lib.ListN.{length}
use lib.Ieee.{Float}
use Rattle.refusals.specs.declared.curves.Faults.{Faults}
use Rattle.refusals.specs.declared.refusals.Refusal.{Refusal}
use Rattle.refusals.specs.Refusals.{first_of, Answer}
use Rattle.refusals.specs.Order.{none_applies}
use Rattle.refusals.specs.Checks.{in_order}
use Rattle.refusals.specs.Faults.{curve_faults, pillar_faults, coupon_faults}
use Rattle.refusals.proofs.Outcomes.{neither}
use Rattle.refusals.proofs.CurveLaws.{curve_rises}
use Rattle.pricer_formulas.specs.declared.bond_option.SwaptionType.{SwaptionType}
use Rattle.pricer_value.specs.Value.{swaption_priced}
use Rattle.pricer.specs.Pricer.{pricer_rules, pricer_rules_on, pricer_outcome}

-- ---- the rules do not ask where the faults and tests come from
pub same_rules : {curve curve' schedule schedule' coupons coupons' own own' : Faults} {later later' : Bool} (empty : Bool) (alpha strike t notional side : Float) {answer : Answer}
    → curve ≡ curve' → schedule ≡ schedule' → coupons ≡ coupons' → own ≡ own' → later ≡ later'
    → answer ≡ first_of (pricer_rules curve schedule coupons own later empty alpha strike t notional side)
    → answer ≡ first_of (pricer_rules curve' schedule' coupons' own' later' empty alpha strike t notional side)
same_rules empty alpha strike t notional side c s k o a r = rw (← c, ← s, ← k, ← o, ← a) r

-- ---- they turn the call down, or let it through
module _ (option : SwaptionType) (alpha : Float) (pls ss ts fs payments accruals owns : List Float) (strike t notional side : Float) {answer : Answer}
    (r : answer ≡ first_of (pricer_rules_on alpha pls ss ts fs payments accruals owns strike t notional side)) where
  pub turned_down : {q : Refusal} → answer ≡ Err q → Err q ≡ pricer_outcome option alpha pls ss ts fs payments accruals owns strike t notional side
  unfolding pricer_outcome
  turned_down e = rw (← r, e)

  pub let_through : answer ≡ Ok tt → swaption_priced option alpha pls ss ts fs payments accruals owns strike t notional side ≡ pricer_outcome option alpha pls ss ts fs payments accruals owns strike t notional side
  unfolding pricer_outcome
  let_through e = rw (← r, e)

  -- by rule 1 the coupons' lists are of one length of at most 64, by rule 4 the curve's times strictly rise
  pub lists_fit : answer ≡ Ok tt → (length payments ≤ 64) × (length accruals ≡ length payments) × (length owns ≡ length payments) × (in_order true ts ≡ true)
  lists_fit e =
      let none = (none_applies (pricer_rules_on alpha pls ss ts fs payments accruals owns strike t notional side)).0 (sym r ∙ e) in
      let curve = curve_faults ts fs in
      let schedule = pillar_faults pls ss in
      let coupons = coupon_faults payments accruals in
      let u = not (eqb (length payments) (length owns)) in
      let v = neither (curve.size || schedule.size || coupons.size) u none.0 in
      let w = neither (curve.size || schedule.size) coupons.size v.0 in
      let s = neither (ltb 64 (length payments)) (not (eqb (length payments) (length accruals))) w.1 in (
        ltb-false 64 (length payments) s.0,
        sym (eqb-true (length payments) (length accruals) (not-false (eqb (length payments) (length accruals)) s.1)),
        sym (eqb-true (length payments) (length owns) (not-false (eqb (length payments) (length owns)) v.1)),
        curve_rises ts fs (neither curve.order schedule.order none.1.1.1.0).0,
      )
