-- How a call comes out: its rules, its lookups, its search, each where the code took the one arm or the other. Assumes nothing.
use Rattle.std.specs.Prelude.{Ok, Err}
use mathlib.Core.Path.{◌≡◌, sym, ap, ◌∙◌}
use mathlib.Core.Bool.{Bool, true, false, not, ◌&&◌}
use mathlib.Core.List.{List}
use Prim.Native.Nat.{◌≤◌}
use borrow.Author.Tests.{ltb-false, eqb-true, not-false, eq-eqb, ne_eqb}
use lib.Dec.{ltb, eqb}
use lib.ListN.{length}
use lib.Ieee.{Float}
use lib.Ieee.Scale.{finite}
use Rattle.refusals.specs.declared.curves.Faults.{Faults}
use Rattle.refusals.specs.declared.refusals.Refusal.{Refusal}
use Rattle.refusals.specs.declared.refusals.Refusal.TheVariants as R
use Rattle.refusals.specs.Refusals.{Outcome, first_of, following, Answer}
use Rattle.refusals.specs.Order.{none_applies}
use Rattle.refusals.specs.Checks.{in_order}
use Rattle.refusals.specs.Faults.{curve_faults, coupon_faults}
use Rattle.refusals.proofs.Outcomes.{neither}
use Rattle.refusals.proofs.CurveLaws.{curve_rises}
use Rattle.hullwhite_terms.specs.Terms.{curve_parts_of}
use Rattle.search.specs.Values.{root_finite}
use Rattle.search.proofs.Answers.{and_root}
use Rattle.hullwhite_terms.specs.Swaption.{SwaptionTerms, terms_on, terms_of, terms_outcome}
use Rattle.hullwhite_terms.proofs.OnTerms.{terms_refused, terms_served}
use Rattle.search.specs.declared.Root.{Root}
use Rattle.hullwhite_jamshidian.specs.declared.price.SwaptionAhead.{SwaptionAhead}
use Rattle.hullwhite_jamshidian.specs.declared.price.Swaption.{Swaption}
use Rattle.hullwhite_jamshidian.specs.Price.{no_swaption, finishing_swaption}
use Rattle.hullwhite_jamshidian.specs.Ahead.{ahead_of, price_ahead, price_on, price_ahead_lem}
use Rattle.hullwhite_swaptions.specs.Model.{model_rules, model_rules_on, terms_priced, model_priced, model_outcome}
use Rattle.hullwhite_terms.specs.declared.swaption.TermsAhead.{TermsAhead}

-- ---- the rules do not ask where the faults come from
pub same_rules : {curve curve' coupons coupons' : Faults} {later later' : Bool} (alpha strike t sigma : Float) {answer : Answer} → curve ≡ curve' → coupons ≡ coupons' → later ≡ later'
    → answer ≡ first_of (model_rules curve coupons later alpha strike t sigma) → answer ≡ first_of (model_rules curve' coupons' later' alpha strike t sigma)
same_rules alpha strike t sigma p q r h = rw (← p, ← q, ← r) h

-- ---- they turn the call down, or let it through, with coupons or without
module _ (alpha : Float) (ts fs payments accruals : List Float) (strike t sigma : Float) {answer : Answer} (h : answer ≡ first_of (model_rules_on alpha ts fs payments accruals strike t sigma)) where
  pub turned_down : {q : Refusal} → answer ≡ Err q → Err q ≡ model_outcome alpha ts fs payments accruals strike t sigma
  unfolding model_outcome
  turned_down e = rw (← h, e)

  pub no_coupons : answer ≡ Ok tt → length payments ≡ 0 → Ok no_swaption ≡ model_outcome alpha ts fs payments accruals strike t sigma
  unfolding model_outcome
  no_coupons e z = rw (← h, e, eq-eqb (length payments) 0 z)

  pub with_coupons : answer ≡ Ok tt → (length payments ≡ 0 → ⊥) → model_priced alpha ts fs payments accruals strike t sigma ≡ model_outcome alpha ts fs payments accruals strike t sigma
  unfolding model_outcome
  with_coupons e z = rw (← h, e, ne_eqb (length payments) 0 z)

  -- by rule 1 the coupons' lists are of one length of at most 64, by rule 4 the curve's times strictly rise
  pub lists_fit : answer ≡ Ok tt → (length payments ≤ 64) × (length accruals ≡ length payments) × (in_order true ts ≡ true)
  lists_fit e =
      let none = (none_applies (model_rules_on alpha ts fs payments accruals strike t sigma)).0 (sym h ∙ e) in
      let size = neither (curve_faults ts fs).size (coupon_faults payments accruals).size none.0 in
      let both = neither (ltb 64 (length payments)) (not (eqb (length payments) (length accruals))) size.1 in (
        ltb-false 64 (length payments) both.0,
        sym (eqb-true (length payments) (length accruals) (not-false (eqb (length payments) (length accruals)) both.1)),
        curve_rises ts fs none.1.1.1.0,
      )

-- ---- the terms, and the price on them
pub terms_are : (alpha t sigma pt forward : Float) (cs bs ps : List Float) {ds : List Float} {ahead : SwaptionAhead} {o q : Outcome Swaption}
    → ds ≡ curve_parts_of forward pt bs ps → ahead ≡ ahead_of alpha t pt
    → o ≡ price_ahead ahead sigma cs bs ds ps → q ≡ following o finishing_swaption → q ≡ following (price_on alpha t (record { pt = pt; forward = forward; coefficients = cs; bs = bs; factors = ps }) sigma) finishing_swaption
terms_are alpha t sigma pt forward cs bs ps d h o q = rw (← d, ← h, ← o) q

-- on all the terms it is the price on the factors
pub terms_priced_lem : (alpha : Float) (payments accruals : List Float) (strike t sigma pt p_plus : Float) (ps : List Float)
    → following (price_on alpha t (terms_on alpha payments accruals strike t pt p_plus ps) sigma) finishing_swaption ≡ terms_priced alpha payments accruals strike t sigma pt p_plus ps
unfolding terms_priced
terms_priced_lem alpha payments accruals strike t sigma pt p_plus ps = ap (λ (o : Outcome Swaption). following o finishing_swaption) (price_ahead_lem alpha payments accruals strike t pt p_plus ps sigma)

-- the call, by what its terms came to, `r` with the lists beside it
module _ (alpha : Float) (ts fs payments accruals : List Float) (strike t sigma : Float) (r : Outcome TermsAhead) (cs bs ps : List Float) (is : terms_outcome r cs bs ps ≡ terms_of alpha ts fs payments accruals strike t) where
  abbrev on : SwaptionTerms → Outcome Swaption
  on w = following (price_on alpha t w sigma) finishing_swaption

  pub off_curve : {q : Refusal} → r ≡ Err q → Err q ≡ model_priced alpha ts fs payments accruals strike t sigma
  unfolding model_priced
  off_curve e = terms_refused alpha ts fs payments accruals strike t _ on (terms_priced_lem alpha payments accruals strike t sigma) r cs bs ps is e

  pub on_curve : {ahead : TermsAhead} {cs' bs' ps' : List Float} {o : Outcome Swaption} → r ≡ Ok ahead → cs' ≡ cs → bs' ≡ bs → ps' ≡ ps
      → o ≡ on (record { pt = ahead.p_t; forward = ahead.forward; coefficients = cs'; bs = bs'; factors = ps' }) → o ≡ model_priced alpha ts fs payments accruals strike t sigma
  unfolding model_priced
  on_curve e c b p h = h ∙ terms_served alpha ts fs payments accruals strike t _ on (terms_priced_lem alpha payments accruals strike t sigma) r cs bs ps is e c b p

-- ---- rule 13
abbrev pub all_finite : Float → Root → Bool
all_finite v r = finite v && root_finite r.rate r.bracket

module _ (priced : Outcome Swaption) (s : Swaption) (e : priced ≡ Ok s) where
  pub finishes : all_finite s.value s.root ≡ true → Ok s ≡ following priced finishing_swaption
  finishes h = rw (e, ← and_root (finite s.value) s.root.rate s.root.bracket, h)

  pub overflows : all_finite s.value s.root ≡ false → Err R.Overflow ≡ following priced finishing_swaption
  overflows h = rw (e, ← and_root (finite s.value) s.root.rate s.root.bracket, h)
