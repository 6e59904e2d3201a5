-- How a call comes out: turned down by its rules, or as its search and what follows it say. Assumes nothing.
use Rattle.std.specs.Prelude.{Result, Ok, Err}
use mathlib.Core.Path.{◌≡◌, sym, ◌∙◌}
use mathlib.Core.Bool.{not, ◌||◌}
use mathlib.Core.List.{List}
use Prim.Native.Nat.{◌≤◌}
use borrow.Author.Tests.{ltb-false, eqb-true, not-false}
use lib.Dec.{ltb, eqb}
use lib.ListN.{length}
use lib.Ieee.{Float}
use Rattle.refusals.specs.declared.refusals.Refusal.{Refusal}
use Rattle.refusals.specs.Refusals.{Outcome, first_of, following, Answer}
use Rattle.refusals.specs.Order.{none_applies}
use Rattle.refusals.proofs.Outcomes.{neither}
use Rattle.search_sum.specs.Sum.{coupon_sum}
use Rattle.search.specs.declared.Root.{Root}
use Rattle.search.specs.declared.Unfound.{Unfound}
use Rattle.search.specs.Values.{critical_outcome}
use Rattle.search.specs.Facts.{Searched}
use Rattle.pricer_formulas.specs.Newton.{sums_of, stepped}
use Rattle.pricer_critical_rate.specs.Find.{search_rules, finishing_rate, find_outcome}
use Rattle.pricer_critical_rate.specs.declared.implicit.ImplicitRate.{ImplicitRate}
use Rattle.pricer_critical_rate.specs.Implicit.{finishing_implicit, stepped_from, implicit_outcome}

-- ---- the rules turn the call down, or let it through with lists that fit
module _ (cs affs bs : List Float) {answer : Answer} (h : answer ≡ first_of (search_rules cs affs bs)) where
  pub lists_fit : answer ≡ Ok tt → (length cs ≤ 64) × (length affs ≡ length cs) × (length bs ≡ length cs)
  lists_fit e =
      let none = (none_applies (search_rules cs affs bs)).0 (sym h ∙ e) in
      let two = neither (ltb 64 (length cs) || not (eqb (length cs) (length affs))) (not (eqb (length cs) (length bs))) none.0 in
      let one = neither (ltb 64 (length cs)) (not (eqb (length cs) (length affs))) two.0 in (
        ltb-false 64 (length cs) one.0,
        sym (eqb-true (length cs) (length affs) (not-false (eqb (length cs) (length affs)) one.1)),
        sym (eqb-true (length cs) (length bs) (not-false (eqb (length cs) (length bs)) two.1)),
      )

  pub rate_refused : {q : Refusal} → answer ≡ Err q → Err q ≡ find_outcome cs affs bs
  unfolding find_outcome
  rate_refused e = rw (← h, e)

  pub rate_searched : {r : Result Root Unfound} {o : Outcome Root} → answer ≡ Ok tt → Searched (coupon_sum cs affs bs) r → o ≡ following (critical_outcome r) finishing_rate → o ≡ find_outcome cs affs bs
  unfolding find_outcome
  rate_searched e s f = rw (← h, e, ← s.is) f

  pub implicit_refused : {q : Refusal} → answer ≡ Err q → Err q ≡ implicit_outcome cs affs bs
  unfolding implicit_outcome
  implicit_refused e = rw (← h, e)

  pub implicit_searched : {r : Result Root Unfound} {o : Outcome ImplicitRate} → answer ≡ Ok tt → Searched (coupon_sum cs affs bs) r → o ≡ following (critical_outcome r) (stepped_from cs affs bs) → o ≡ implicit_outcome cs affs bs
  unfolding implicit_outcome
  implicit_searched e s f = rw (← h, e, ← s.is) f

-- ---- the step from a root that was found, `x` by its answer
module _ (cs affs bs : List Float) (root : Root) {x : Outcome Float} {o : Outcome ImplicitRate} where
  pub step_is : x ≡ stepped root.rate (sums_of root.rate cs affs bs) → o ≡ following x (λ s. finishing_implicit (record { after_step = s; root = root })) → o ≡ stepped_from cs affs bs root
  unfolding stepped_from
  step_is e h = rw (← e) h
