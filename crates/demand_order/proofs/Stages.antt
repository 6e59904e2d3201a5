-- The laws of specs/Stages.antt: what is met in an earlier stage has a smaller place; and a call whose stages refuse by their own refusals alone is refused by r exactly where the stage of r refuses so and none before it does.
use Rattle.std.specs.Prelude.{◌≡◌, refl, Bool, true, false, cond, List, [], ◌∷◌, ℕ, ◌≤◌, ◌<◌, T, ltb, eqb, Float, Ok, Err}
use Rattle.std.proofs.Common.{sym, ◌∙◌, ap, subst, inl, inr, arith, ltb-true, ltb-false, eqb-true}
use Rattle.std.proofs.lemmas.Bool.{eqb-false}
use Rattle.std.specs.Float.Ieee.Fits.{and_l, and_r}
use Rattle.refusals.specs.declared.refusals.Refusal.{Refusal}
use Rattle.refusals.specs.declared.refusals.Refusal.TheVariants as R
use Rattle.refusals.specs.declared.refusals.Rule.{Rule}
use Rattle.refusals.specs.Refusals.{Outcome, place_of, first_of, after, following, Answer}
use Rattle.refusals.specs.Order.{First, first_applies}
use Rattle.demand_order.specs.Stages.{Stage, by_rule, off_curve, evaluated, finished, stage_at, stage_of, order_of, Only, staged, RefusedAt, Met, all_rules}

-- what is met in an earlier stage has a smaller place
abbrev Within : Stage → ℕ → Type 0
Within by_rule place = place < place_of R.OffCurve
Within off_curve place = place ≡ place_of R.OffCurve
Within evaluated place = (place_of R.OffCurve < place) × (place < place_of R.Overflow)
Within finished place = place_of R.Overflow ≤ place

chosen : (P : Stage → Type 0) (b : Bool) (x y : Stage) → (b ≡ true → P x) → (b ≡ false → P y) → P (cond b x y)
chosen P true x y h k = h refl
chosen P false x y h k = k refl

within : (place : ℕ) → Within (stage_at place) place
within place =
    let P : Stage → Type 0 = λ s. Within s place in
    chosen P (ltb place (place_of R.OffCurve)) _ _ (ltb-true place (place_of R.OffCurve)) (λ a.
    chosen P (eqb place (place_of R.OffCurve)) _ _ (eqb-true place (place_of R.OffCurve)) (λ b.
    let least = ltb-false place (place_of R.OffCurve) a in
    let other = eqb-false place (place_of R.OffCurve) b in
    chosen P (ltb place (place_of R.Overflow)) _ _ (λ c. (omega arith, ltb-true place (place_of R.Overflow) c)) (ltb-false place (place_of R.Overflow))))

apart : (s t : Stage) (m n : ℕ) → Within s m → Within t n → order_of s < order_of t → m < n
apart by_rule by_rule m n a b h = omega arith
apart by_rule off_curve m n a b h = omega arith
apart by_rule evaluated m n a b h = omega arith
apart by_rule finished m n a b h = omega arith
apart off_curve by_rule m n a b h = omega arith
apart off_curve off_curve m n a b h = omega arith
apart off_curve evaluated m n a b h = omega arith
apart off_curve finished m n a b h = omega arith
apart evaluated by_rule m n a b h = omega arith
apart evaluated off_curve m n a b h = omega arith
apart evaluated evaluated m n a b h = omega arith
apart evaluated finished m n a b h = omega arith
apart finished by_rule m n a b h = omega arith
apart finished off_curve m n a b h = omega arith
apart finished evaluated m n a b h = omega arith
apart finished finished m n a b h = omega arith

pub by_place : (q r : Refusal) → order_of (stage_of q) < order_of (stage_of r) → place_of q < place_of r
by_place q r h = apart (stage_of q) (stage_of r) (place_of q) (place_of r) (within (place_of q)) (within (place_of r)) h

-- ---- the law: it is so of every call whose stages refuse by their own refusals alone

taken : (b : Bool) (x y : Stage) → T b → cond b x y ≡ x
taken true x y h = refl
taken false x y h = elim h [ ]

early : (r : Refusal) → T (ltb (place_of r) (place_of R.OffCurve)) → stage_of r ≡ by_rule
early r h = taken (ltb (place_of r) (place_of R.OffCurve)) by_rule _ h

ruled : (r : Refusal) (xs : List Rule) → T (all_rules xs) → First r xs → stage_of r ≡ by_rule
ruled r [] k f = absurd f
ruled r (x ∷ xs) k (inl e) = ap stage_of (sym e.1) ∙ early x.refusal (and_l (ltb (place_of x.refusal) (place_of R.OffCurve)) (all_rules xs) k)
ruled r (x ∷ xs) k (inr e) = ruled r xs (and_r (ltb (place_of x.refusal) (place_of R.OffCurve)) (all_rules xs) k) e.1

module _ {W B : Type 0} (rules : List Rule) (found : Outcome (List Float)) (worked : List Float → Outcome W) (answered : W → Outcome B) where
  -- a stage that refuses, all before it being served, refuses the call
  back : (s : Stage) (r : Refusal) → RefusedAt rules found worked answered s r → staged rules found worked answered ≡ Err r
  back by_rule r e = rw e
  back off_curve r e = rw (e.0, e.1)
  back evaluated r e = rw (e.0, e.1.1, e.1.2)
  back finished r e = rw (e.0, e.1.2, e.1.3, e.1.4)

  -- and where it is refused, one of them does, which is r's own
  module _ (k : T (all_rules rules)) (lookups : first_of rules ≡ Ok tt → Only off_curve found) (evaluations : (ps : List Float) → Only evaluated (worked ps)) (answers : (v : W) → Only finished (answered v)) (r : Refusal) where
    abbrev Here : Type 0
    Here = RefusedAt rules found worked answered (stage_of r) r

    own : {s : Stage} → stage_of r ≡ s → RefusedAt rules found worked answered s r → Here
    own e h = subst (λ (s : Stage). RefusedAt rules found worked answered s r) (sym e) h

    answering : (ps : List Float) (v : W) → first_of rules ≡ Ok tt → found ≡ Ok ps → worked ps ≡ Ok v → answered v ≡ Err r → Here
    answering ps v a b c e = own (answers v r e) (a, (ps, v, b, c, e))

    evaluating : (ps : List Float) → first_of rules ≡ Ok tt → found ≡ Ok ps → (o : Outcome W) → worked ps ≡ o → following o answered ≡ Err r → Here
    evaluating ps a b (Ok v) c e = answering ps v a b c e
    evaluating ps a b (Err q) c e = let p : worked ps ≡ Err r = cc in own (evaluations ps r p) (a, (ps, b, p))

    looking : first_of rules ≡ Ok tt → (o : Outcome (List Float)) → found ≡ o → following o (λ ps. following (worked ps) answered) ≡ Err r → Here
    looking a (Ok ps) b e = evaluating ps a b (worked ps) refl e
    looking a (Err q) b e = let p : found ≡ Err r = cc in own (lookups a r p) (a, p)

    ruling : (a : Answer) → first_of rules ≡ a → after a (following found (λ ps. following (worked ps) answered)) ≡ Err r → Here
    ruling (Ok tt) a e = looking a found refl e
    ruling (Err q) a e = let p : first_of rules ≡ Err r = cc in own (ruled r rules k ((first_applies r rules).0 p)) p

  pub met : T (all_rules rules) → (first_of rules ≡ Ok tt → Only off_curve found) → ((ps : List Float) → Only evaluated (worked ps)) → ((v : W) → Only finished (answered v))
      → (o : Outcome B) → o ≡ staged rules found worked answered → Met rules found worked answered o
  met k lookups evaluations answers o e = record {
    is = e;
    refused_at = λ r. (λ h. ruling k lookups evaluations answers r (first_of rules) refl (sym e ∙ h), λ h. e ∙ back (stage_of r) r h);
  }
