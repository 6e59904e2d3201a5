-- How a basket comes out: turned down by its rules, let through with lists that fit, refused by a fit or by a bumped fit, or served. Assumes nothing.
use Rattle.std.specs.Prelude.{Ok, Err}
use Rattle.std.specs.Result.{IsErrAnd}
use mathlib.Core.Path.{◌≡◌, refl, sym, ap, ◌∙◌}
use mathlib.Core.Bool.{Bool, true, false, not, ◌||◌}
use mathlib.Core.List.{List, [], ◌∷◌}
use Prim.Native.Nat.{ℕ, suc, ◌≤◌}
use native.Mathlib.Omega.{arith}
use borrow.Author.Tests.{ltb-false, eqb-true, not-false}
use lib.Dec.{ltb, eqb}
use lib.ListN.{length}
use lib.Ieee.{Float}
use Rattle.refusals.specs.declared.curves.Faults.{Faults}
use Rattle.refusals.specs.declared.refusals.Refusal.{Refusal}
use Rattle.refusals.specs.declared.refusals.Rule.{Rule}
use Rattle.refusals.specs.Refusals.{Outcome, first_of, after, Answer}
use Rattle.refusals.specs.Order.{none_applies}
use Rattle.refusals.specs.Checks.{in_order}
use Rattle.refusals.specs.Faults.{curve_faults}
use Rattle.refusals.proofs.Outcomes.{neither, handed_on, after_refusal, after_served}
use Rattle.refusals.proofs.CurveLaws.{curve_rises}
use Rattle.basket_entries.specs.Entries.{Entry, entries_of, size_wrong, numbers_wrong, times_wrong, domain_wrong, basket_rules, basket_rules_on}
use Rattle.basket.specs.declared.call.Basket.{Basket}
use Rattle.basket.specs.Basket.{Records, fits_of, Bumps, bumps_of, padded, fitted_basket, basket_of}

-- ---- lists of one length have an entry a place
pub counted : (ns : List Bool) (ks ts ends vs : List Float) → length ks ≡ length ns → length ts ≡ length ns → length ends ≡ length ns → length vs ≡ length ns → length (entries_of ns ks ts ends vs) ≡ length ns
unfolding entries_of
counted [] ks ts ends vs a b c d = refl
counted (n ∷ ns) [] ts ends vs a b c d = absurd (let z : ⊥ = omega arith in z)
counted (n ∷ ns) (k ∷ ks) [] ends vs a b c d = absurd (let z : ⊥ = omega arith in z)
counted (n ∷ ns) (k ∷ ks) (t ∷ ts) [] vs a b c d = absurd (let z : ⊥ = omega arith in z)
counted (n ∷ ns) (k ∷ ks) (t ∷ ts) (e ∷ ends) [] a b c d = absurd (let z : ⊥ = omega arith in z)
counted (n ∷ ns) (k ∷ ks) (t ∷ ts) (e ∷ ends) (v ∷ vs) a b c d = ap suc (counted ns ks ts ends vs (omega arith) (omega arith) (omega arith) (omega arith))

-- ---- the entries' fits, then their bumped fits
module _ (alpha : Float) (xs fs : List Float) (es : List Entry) (rs : Records) {fits : Answer} (h : fits_of alpha xs fs es ≡ after fits (Ok rs)) where
  pub fits_refused : {q : Refusal} {gave : Outcome Basket} → fits ≡ Err q → IsErrAnd gave (λ r. r ≡ q) → gave ≡ fitted_basket alpha xs fs es
  unfolding fitted_basket
  fits_refused e i = handed_on i ∙ rw (h, e)

  module _ (e : fits ≡ Ok tt) {ss : List Float} (p : ss ≡ rs.sigmas) (bs : Bumps) {bumps : Answer} (k : bumps_of alpha xs fs es ss ≡ after bumps (Ok bs)) where
    pub bumps_refused : {q : Refusal} {gave : Outcome Basket} → bumps ≡ Err q → IsErrAnd gave (λ r. r ≡ q) → gave ≡ fitted_basket alpha xs fs es
    unfolding fitted_basket
    bumps_refused z i =
        let w = ap (bumps_of alpha xs fs es) (sym p) ∙ k in
        handed_on i ∙ rw (h, e, w, z)

    pub basket_served : {n : ℕ} {a b c d f g : List Float} → bumps ≡ Ok tt → length es ≡ n → a ≡ padded rs.sigmas → b ≡ padded rs.statuses → c ≡ padded rs.halvings → d ≡ padded rs.residuals → f ≡ padded bs.diagonal → g ≡ padded bs.statuses
        → ◌≡◌ {A = Outcome Basket} (Ok (record { count = n; sigmas = a; statuses = b; halvings = c; residuals = d; diagonal = f; bumped_statuses = g })) (fitted_basket alpha xs fs es)
    unfolding fitted_basket
    basket_served z m p1 p2 p3 p4 p5 p6 =
        let w = ap (bumps_of alpha xs fs es) (sym p) ∙ k in
        rw (h, e, w, z, m, p1, p2, p3, p4, p5, p6)

-- ---- the rules
module _ (alpha : Float) (xs fs : List Float) (ns : List Bool) (ks ts ends vs : List Float) {curve : Faults} {size numbers times domain : Bool}
    (f : curve ≡ curve_faults xs fs) (p : size ≡ size_wrong ns ks ts ends vs) (q : numbers ≡ numbers_wrong ks ts ends vs) (r : times ≡ times_wrong ts ends) (s : domain ≡ domain_wrong ns ks vs) where
  abbrev rules : List Rule
  rules = basket_rules curve alpha size numbers times domain

  pub turned_down : {refusal : Refusal} {gave : Outcome Basket} → Err refusal ≡ first_of rules → IsErrAnd gave (λ r. r ≡ refusal) → gave ≡ basket_of alpha xs fs ns ks ts ends vs
  unfolding basket_of
  turned_down h = after_refusal _ (rw (f, p, q, r, s) at h)

  module _ (h : Ok tt ≡ first_of rules) where
    pub let_through : {o : Outcome Basket} → o ≡ fitted_basket alpha xs fs (entries_of ns ks ts ends vs) → o ≡ basket_of alpha xs fs ns ks ts ends vs
    unfolding basket_of
    let_through = after_served _ (rw (f, p, q, r, s) at h)

    -- by rule 1 the lists are of one length of at most 64; by rule 4 the curve's times strictly rise
    pub lists_fit : (length ns ≤ 64) × (length ks ≡ length ns) × (length ts ≡ length ns) × (length ends ≡ length ns) × (length vs ≡ length ns) × (in_order true xs ≡ true)
    lists_fit =
        let none = (none_applies (basket_rules_on alpha xs fs ns ks ts ends vs)).0 (sym (rw (f, p, q, r, s) at h)) in
        let size = neither (curve_faults xs fs).size (size_wrong ns ks ts ends vs) none.0 in
        let s = sizes size.1 in
        (s.0, s.1, s.2, s.3, s.4, curve_rises xs fs none.1.1.1.0)
      where
        same : (ws : List Float) → not (eqb (length ns) (length ws)) ≡ false → length ws ≡ length ns
        same ws z = sym (eqb-true (length ns) (length ws) (not-false (eqb (length ns) (length ws)) z))

        sizes : size_wrong ns ks ts ends vs ≡ false → (length ns ≤ 64) × (length ks ≡ length ns) × (length ts ≡ length ns) × (length ends ≡ length ns) × (length vs ≡ length ns)
        sizes z =
            let n4 = neither (ltb 64 (length ns) || not (eqb (length ns) (length ks)) || not (eqb (length ns) (length ts)) || not (eqb (length ns) (length ends))) (not (eqb (length ns) (length vs))) z in
            let n3 = neither (ltb 64 (length ns) || not (eqb (length ns) (length ks)) || not (eqb (length ns) (length ts))) (not (eqb (length ns) (length ends))) n4.0 in
            let n2 = neither (ltb 64 (length ns) || not (eqb (length ns) (length ks))) (not (eqb (length ns) (length ts))) n3.0 in
            let n1 = neither (ltb 64 (length ns)) (not (eqb (length ns) (length ks))) n2.0 in
            (ltb-false 64 (length ns) n1.0, same ks n1.1, same ts n2.1, same ends n3.1, same vs n4.1)
