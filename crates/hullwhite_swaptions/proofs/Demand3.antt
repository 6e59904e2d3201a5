-- Demand 3 of kind 5, of the definition: an outcome that is served, with coupons, has its root located among the sums of the terms priced, and one is refused for want of a bracket exactly where a search is begun that finds none. Assumes nothing.
use Rattle.std.specs.Prelude.{Ok, Err}
use mathlib.Core.Path.{◌≡◌, refl, sym, ap, ◌∙◌, subst}
use mathlib.Core.Logic.{◌↔◌}
use mathlib.Core.Bool.{◌&&◌, cond}
use mathlib.Core.List.{List}
use Prim.Native.Nat.{ℕ, zero, suc, ◌<◌}
use native.Mathlib.Omega.{arith}
use borrow.Author.Tests.{ne_eqb}
use lib.Dec.{eqb}
use lib.ListN.{length}
use lib.Ieee.{Float}
use lib.Ieee.Scale.{finite}
use Rattle.refusals.specs.declared.refusals.Refusal.TheVariants as R
use Rattle.refusals.specs.Refusals.{Outcome, after, following, reported}
use Rattle.refusals.proofs.Outcomes.{not_both}
use Rattle.hullwhite_formulas.specs.HullWhite.{forward_of}
use Rattle.search.specs.Rate.{critical_of}
use Rattle.search.specs.declared.Root.{Root}
use Rattle.search.specs.Values.{critical_outcome}
use Rattle.search.specs.Reached.{Unbracketed}
use Rattle.search.specs.Facts.{Located}
use Rattle.hullwhite_terms.proofs.Callers.{Late, past_rules, searching, root_located, wants_bracket, no_bracket, ends_so, ends_otherwise}
use Rattle.hullwhite_terms.specs.Terms.{coefficients_of}
use Rattle.hullwhite_terms.specs.Begun.{Begun, RootFound, WantsBracket}
use Rattle.hullwhite_terms.proofs.Begun.{Searches, looked_up_lem, looks_up}
use Rattle.hullwhite_jamshidian.specs.declared.price.Swaption.{Swaption}
use Rattle.hullwhite_jamshidian.specs.Price.{no_swaption, puts_of, price_at, finishing_swaption}
use Rattle.hullwhite_swaptions.specs.Model.{model_rules_on, terms_priced, model_priced, model_outcome}
use Rattle.hullwhite_jamshidian.specs.PricedSum.{model_sum_of}
use Rattle.hullwhite_swaptions.specs.Demand3.{ModelRootLocated, ModelNoBracketExactly}

-- ---- rule 13 after the price
keeps : (w v : Swaption) → finishing_swaption w ≡ Ok v → w ≡ v
keeps w v e =
    let b = w.root.bracket in
    ends_so (finite w.value && finite w.root.rate && finite b.lower && finite b.upper && finite b.lower_sum && finite b.upper_sum) w e

otherwise : (w : Swaption) → finishing_swaption w ≡ Err R.NoBracket → ⊥
otherwise w e =
    let b = w.root.bracket in
    ends_otherwise (finite w.value && finite w.root.rate && finite b.lower && finite b.upper && finite b.lower_sum && finite b.upper_sum) w e

-- ---- the terms priced: a search, and what follows it
valued_then : (x : Outcome Root) (value : Root → Swaption) → following (following x (λ root. Ok (value root))) finishing_swaption ≡ following x (λ root. finishing_swaption (value root))
valued_then (Ok v) value = refl
valued_then (Err q) value = refl

module _ (alpha : Float) (payments accruals : List Float) (strike t sigma pt p_plus : Float) (ps : List Float) where
  sum : Float → Float
  sum = model_sum_of alpha t payments accruals strike sigma pt p_plus ps

  value : Root → Swaption
  value root = record { value = puts_of alpha t sigma (forward_of pt p_plus) pt root.rate (coefficients_of strike accruals) payments ps; root = root }

  priced_by_search : terms_priced alpha payments accruals strike t sigma pt p_plus ps ≡ searching sum (λ root. finishing_swaption (value root))
  unfolding terms_priced price_at sum value
  priced_by_search = valued_then (critical_outcome (critical_of sum)) value

  located : (v : Swaption) → terms_priced alpha payments accruals strike t sigma pt p_plus ps ≡ Ok v → Located sum v.root
  unfolding value
  located v e =
      let r = root_located sum (λ root. finishing_swaption (value root)) v (sym priced_by_search ∙ e) in
      subst (Located sum) (ap (λ (u : Swaption). u.root) (keeps (value r.0) v r.2)) r.1

  unbracketed : terms_priced alpha payments accruals strike t sigma pt p_plus ps ≡ Err R.NoBracket → Unbracketed sum
  unbracketed e = wants_bracket sum (λ root. finishing_swaption (value root)) (λ v. otherwise (value v)) (sym priced_by_search ∙ e)

  bracket_wanted : Unbracketed sum → terms_priced alpha payments accruals strike t sigma pt p_plus ps ≡ Err R.NoBracket
  bracket_wanted u = priced_by_search ∙ no_bracket sum (λ root. finishing_swaption (value root)) u

-- ---- the call
coupons_there : (n : ℕ) (rest : Outcome Swaption) → cond (eqb n 0) (Ok no_swaption) rest ≡ Err R.NoBracket → 0 < n
coupons_there zero rest e = absurd (not_both (sym e))
coupons_there (suc n) rest e = omega arith

with_coupons : (n : ℕ) (rest : Outcome Swaption) → 0 < n → cond (eqb n 0) (Ok no_swaption) rest ≡ rest
with_coupons n rest l = rw (ne_eqb n 0 (λ e. omega arith))

module _ (alpha : Float) (ts fs payments accruals : List Float) (strike t sigma : Float) where
  -- what is left of the call after its rules
  abbrev called : Outcome Swaption
  called = cond (eqb (length payments) 0) (Ok no_swaption) (model_priced alpha ts fs payments accruals strike t sigma)

  searches : (o : Outcome Swaption) → Late o → model_outcome alpha ts fs payments accruals strike t sigma ≡ o → (called ≡ o → 0 < length payments)
      → (0 < length payments) × Searches (model_rules_on alpha ts fs payments accruals strike t sigma) ts fs payments t (terms_priced alpha payments accruals strike t sigma) o
  unfolding model_outcome model_priced
  searches o late e l =
      let p = past_rules o late (model_rules_on alpha ts fs payments accruals strike t sigma) called tt e in
      let q = sym (with_coupons (length payments) (model_priced alpha ts fs payments accruals strike t sigma) (l p.1)) ∙ p.1 in
      (l p.1, looked_up_lem _ ts fs payments t (terms_priced alpha payments accruals strike t sigma) o late p.0 q)

  -- a search that is begun is what the call comes to
  begins : 0 < length payments → (b : Begun (model_rules_on alpha ts fs payments accruals strike t sigma) ts fs payments t) → model_outcome alpha ts fs payments accruals strike t sigma ≡ terms_priced alpha payments accruals strike t sigma b.pt b.p_plus b.ps
  unfolding model_outcome model_priced
  begins l b =
      ap (λ a. after a called) b.passed
      ∙ with_coupons (length payments) (model_priced alpha ts fs payments accruals strike t sigma) l
      ∙ looks_up (model_rules_on alpha ts fs payments accruals strike t sigma) ts fs payments t (terms_priced alpha payments accruals strike t sigma) b

  -- ---- of any answer whose outcome is the one defined: `ModelRootLocated` and `ModelNoBracketExactly`
  module _ {o : Outcome Swaption} (is : o ≡ model_outcome alpha ts fs payments accruals strike t sigma) where
    pub rooted : (v : Swaption) → o ≡ Ok v → 0 < length payments → RootFound (model_rules_on alpha ts fs payments accruals strike t sigma) ts fs payments t (model_sum_of alpha t payments accruals strike sigma) v.root
    unfolding sum
    rooted v e l =
        let s = (searches (Ok v) tt (sym is ∙ e) (λ z. l)).1 in
        record { begun = s.begun; located = located alpha payments accruals strike t sigma s.begun.pt s.begun.p_plus s.begun.ps v s.goes_on }

    pub refused_so : (o ≡ Err R.NoBracket) ↔ ((0 < length payments) × WantsBracket (model_rules_on alpha ts fs payments accruals strike t sigma) ts fs payments t (model_sum_of alpha t payments accruals strike sigma))
    unfolding sum
    refused_so = (
      λ e. let s = searches (Err R.NoBracket) tt (sym is ∙ e) (coupons_there (length payments) (model_priced alpha ts fs payments accruals strike t sigma)) in
          let b = s.1.begun in
          (s.0, record { begun = b; unbracketed = unbracketed alpha payments accruals strike t sigma b.pt b.p_plus b.ps s.1.goes_on }),
      λ w. let b = w.1.begun in is ∙ begins w.0 b ∙ bracket_wanted alpha payments accruals strike t sigma b.pt b.p_plus b.ps w.1.unbracketed,
    )

  -- ---- all that the call promises of an answer whose outcome is the one defined
  pub promised : (r : Outcome Swaption) → r ≡ model_outcome alpha ts fs payments accruals strike t sigma → record {
    answer : r ≡ model_outcome alpha ts fs payments accruals strike t sigma;
    rooted : ModelRootLocated alpha ts fs payments accruals strike t sigma r;
    bracket : ModelNoBracketExactly alpha ts fs payments accruals strike t sigma r;
    report : reported no_swaption r ≡ reported no_swaption (model_outcome alpha ts fs payments accruals strike t sigma);
  }
  promised r is = record { answer = is; rooted = rooted is; bracket = refused_so is; report = ap (reported no_swaption) is }
