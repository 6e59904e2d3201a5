-- For calls that end in a search: rules and lookups refuse by 1 to 8 alone, so whatever a call comes to beyond those, its search was begun; and by what the search comes to the call is served or refused.
use Rattle.std.specs.Prelude.{Option, Some, None, Ok, Err}
use mathlib.Core.Path.{◌≡◌, refl, sym, ap, ◌∙◌, subst}
use mathlib.Core.Logic.{inl, inr}
use mathlib.Core.Bool.{Bool, true, false, not, ◌&&◌, cond}
use mathlib.Core.List.{List, [], ◌∷◌}
use native.Mathlib.Omega.{arith}
use lib.Dec.{T, ltb}
use lib.Ieee.{Float}
use lib.Ieee.Fits.{and_l, and_r}
use Rattle.refusals.specs.declared.refusals.Refusal.{Refusal}
use Rattle.refusals.specs.declared.refusals.Refusal.TheVariants as R
use Rattle.refusals.specs.declared.refusals.Rule.{Rule}
use Rattle.refusals.specs.Refusals.{Outcome, place_of, answer_number, answer_of, first_of, after, unless, following, Answer}
use Rattle.refusals.specs.Order.{First, first_applies}
use Rattle.curve.specs.Lookups.{needing}
use Rattle.refusals.proofs.Outcomes.{not_both, served_is, refused_is}
use Rattle.search.specs.Rate.{critical_of}
use Rattle.search.specs.declared.Root.{Root}
use Rattle.search.specs.Values.{critical_outcome}
use Rattle.search.specs.Reached.{Unbracketed}
use Rattle.search.specs.Facts.{Located}
use Rattle.search.proofs.Demand3.{accepted}
use Rattle.search.proofs.Reaching.{exactly}

-- ---- the refusals of rules 1 to 8, and the outcomes beyond them
abbrev pub early : Refusal → Bool
early q = ltb (place_of q) (place_of R.NanReached)

abbrev pub all_early : List Rule → Bool
all_early [] = true
all_early (x ∷ xs) = early x.refusal && all_early xs

abbrev pub Late : {B : Type 0} → Outcome B → Type 0
Late (Ok v) = Unit
Late (Err q) = T (not (early q))

yes_no : (b : Bool) → T b → T (not b) → ⊥
yes_no true h k = k
yes_no false h k = h

not_late : {B : Type 0} (o : Outcome B) (q : Refusal) → T (early q) → Late o → Err q ≡ o → ⊥
not_late (Ok v) q h l e = not_both e
not_late (Err r) q h l e = yes_no (early r) (subst (λ (z : Refusal). T (early z)) (refused_is e) h) l

-- ---- what is beyond rules 1 to 7 was let through by them
first_early : (q : Refusal) (xs : List Rule) → T (all_early xs) → First q xs → T (early q)
first_early q [] h k = absurd k
first_early q (x ∷ xs) h (inl e) = subst (λ (z : Refusal). T (early z)) e.1 (and_l (early x.refusal) (all_early xs) h)
first_early q (x ∷ xs) h (inr e) = first_early q xs (and_r (early x.refusal) (all_early xs) h) e.1

module _ {B : Type 0} (o : Outcome B) (late : Late o) where
  pub past_rules : (xs : List Rule) (rest : Outcome B) → T (all_early xs) → unless xs rest ≡ o → (first_of xs ≡ Ok tt) × (rest ≡ o)
  past_rules xs rest h = go (first_of xs) refl
    where
      go : (a : Answer) → first_of xs ≡ a → after a rest ≡ o → (first_of xs ≡ Ok tt) × (rest ≡ o)
      go (Ok tt) p e = (p, e)
      go (Err q) p e = absurd (not_late o q (first_early q xs h ((first_applies q xs).0 p)) late e)

  -- ---- what is beyond rule 8 has found what it looked for
  found : (m : Option Float) (rest : Float → Outcome B) → needing m rest ≡ o → (p : Float) × (m ≡ Some p) × (rest p ≡ o)
  found (Some p) rest e = (p, refl, e)
  found None rest e = absurd (not_late o R.OffCurve tt late e)

  fetched : (f : Outcome (List Float)) (rest : List Float → Outcome B) → ((q : Refusal) → f ≡ Err q → T (early q)) → following f rest ≡ o → (ps : List Float) × (f ≡ Ok ps) × (rest ps ≡ o)
  fetched (Ok ps) rest h e = (ps, refl, e)
  fetched (Err q) rest h e = absurd (not_late o q (h q refl) late e)

-- the factors at t, at t + h and at the payment times, by what their lookups come to
pub record Looked {B : Type 0} (m n : Option Float) (f : Outcome (List Float)) (rest : Float → Float → List Float → Outcome B) (o : Outcome B) : Type 0 where
  pub pt : Float
  pub p_plus : Float
  pub ps : List Float
  pub at_option : m ≡ Some pt
  pub day_after : n ≡ Some p_plus
  pub at_payments : f ≡ Ok ps
  pub goes_on : rest pt p_plus ps ≡ o

module _ {B : Type 0} (m n : Option Float) (f : Outcome (List Float)) (rest : Float → Float → List Float → Outcome B) where
  abbrev pub looking : Outcome B
  looking = needing m (λ pt. needing n (λ p_plus. following f (λ ps. rest pt p_plus ps)))

  pub past_lookups : (o : Outcome B) → Late o → ((q : Refusal) → f ≡ Err q → T (early q)) → looking ≡ o → Looked m n f rest o
  past_lookups o l h e =
      let a = found o l m (λ pt. needing n (λ p_plus. following f (λ ps. rest pt p_plus ps))) e in
      let b = found o l n (λ p_plus. following f (λ ps. rest a.0 p_plus ps)) a.2 in
      let c = fetched o l f (λ ps. rest a.0 b.0 ps) h b.2 in
      record { pt = a.0; p_plus = b.0; ps = c.0; at_option = a.1; day_after = b.1; at_payments = c.1; goes_on = c.2 }

  pub through_lookups : {pt p_plus : Float} {ps : List Float} → m ≡ Some pt → n ≡ Some p_plus → f ≡ Ok ps → looking ≡ rest pt p_plus ps
  through_lookups a b c = rw (a, b, c)

-- ---- a search, and what follows it
module _ {B : Type 0} (sum : Float → Float) (rest : Root → Outcome B) where
  abbrev pub searching : Outcome B
  searching = following (critical_outcome (critical_of sum)) rest

  -- what is served rests on a root that is located
  pub root_located : (w : B) → searching ≡ Ok w → (v : Root) × Located sum v × (rest v ≡ Ok w)
  root_located w = go (critical_outcome (critical_of sum)) refl
    where
      go : (x : Outcome Root) → critical_outcome (critical_of sum) ≡ x → following x rest ≡ Ok w → (v : Root) × Located sum v × (rest v ≡ Ok w)
      go (Ok v) p e = (v, accepted sum v p, e)
      go (Err q) p e = absurd (not_both e)

  -- refused for want of a bracket exactly where there is none, unless what follows the search refuses so
  pub wants_bracket : ((v : Root) → rest v ≡ Err R.NoBracket → ⊥) → searching ≡ Err R.NoBracket → Unbracketed sum
  wants_bracket n = go (critical_outcome (critical_of sum)) refl
    where
      go : (x : Outcome Root) → critical_outcome (critical_of sum) ≡ x → following x rest ≡ Err R.NoBracket → Unbracketed sum
      go (Ok v) p e = absurd (n v e)
      go (Err q) p e = (exactly sum).no_bracket.0 (ap answer_of p ∙ ap Err (refused_is e))

  pub no_bracket : Unbracketed sum → searching ≡ Err R.NoBracket
  no_bracket u = go (critical_outcome (critical_of sum)) ((exactly sum).no_bracket.1 u)
    where
      go : (x : Outcome Root) → answer_of x ≡ Err R.NoBracket → following x rest ≡ Err R.NoBracket
      go (Ok v) p = absurd (let z = ap answer_number p in omega arith)
      go (Err q) p = let e : q ≡ R.NoBracket = cc in ap Err e

-- ---- rule 13, asked last of all, refuses by 13 alone
pub ends_so : {B : Type 0} (b : Bool) (w : B) {v : B} → cond b (Ok w) (Err R.Overflow) ≡ Ok v → w ≡ v
ends_so true w e = served_is e
ends_so false w e = absurd (not_both e)

pub ends_otherwise : {B : Type 0} (b : Bool) (w : B) → cond b (Ok w) (Err R.Overflow) ≡ Err R.NoBracket → ⊥
ends_otherwise true w e = not_both (sym e)
ends_otherwise false w e = let z = ap (λ x. answer_number (answer_of x)) e in omega arith
