-- Rules asked one behind the other: what one more of them comes to, in the middle or at the end. Assumes nothing.
use Rattle.std.specs.Prelude.{◌≡◌, refl, Bool, true, false, cond, not, ◌&&◌, ◌||◌, List, [], ◌∷◌, ◌++◌, ℕ, T, ltb, eqb, Ok, Err}
use Rattle.std.proofs.Common.{ap, inl, inr, arith, ltb→lt}
use Rattle.std.proofs.Math.Dec.{eqb_refl}
use Rattle.std.specs.Float.Ieee.Fits.{and_l, and_r}
use Rattle.refusals.specs.declared.refusals.Refusal.{Refusal}
use Rattle.refusals.specs.declared.refusals.Rule.{Rule}
use Rattle.refusals.specs.Refusals.{Outcome, place_of, rule, first_of, unless}
use Rattle.refusals.specs.Order.{First, first_applies}

-- a rule that applies, behind which no rule does: what those before it let through is refused by it
pub asked_behind : {B : Type 0} (xs : List Rule) (q : Refusal) (ys zs : List Rule) (rest : Outcome B) → first_of zs ≡ Ok tt → unless (xs ++ (rule q true ∷ ys)) rest ≡ unless (xs ++ (rule q false ∷ zs)) (Err q)
unfolding first_of
asked_behind [] q ys zs rest none = rw none refl
asked_behind (x ∷ xs) q ys zs rest none = go x.applies (asked_behind xs q ys zs rest none)
  where
    go : (b : Bool) → unless (xs ++ (rule q true ∷ ys)) rest ≡ unless (xs ++ (rule q false ∷ zs)) (Err q) → unless (rule x.refusal b ∷ xs ++ (rule q true ∷ ys)) rest ≡ unless (rule x.refusal b ∷ xs ++ (rule q false ∷ zs)) (Err q)
    go true e = refl
    go false e = e

pub silent : (q : Refusal) → first_of (rule q false ∷ []) ≡ Ok tt
unfolding first_of
silent q = refl

-- and asked last
pub asked_last : {B : Type 0} (xs : List Rule) (q : Refusal) (rest : Outcome B) → unless (xs ++ (rule q true ∷ [])) rest ≡ unless (xs ++ (rule q false ∷ [])) (Err q)
unfolding first_of
asked_last xs q rest = asked_behind xs q [] [] rest refl

-- a rule that does not apply, asked last, is not seen
pub silent_last : (xs : List Rule) (q : Refusal) → first_of (xs ++ (rule q false ∷ [])) ≡ first_of xs
unfolding first_of
silent_last [] q = refl
silent_last (x ∷ xs) q = ap (cond x.applies (Err x.refusal)) (silent_last xs q)

-- and what all before let through is left to the others
pub let_through : (xs ys : List Rule) → first_of xs ≡ Ok tt → first_of (xs ++ ys) ≡ first_of ys
unfolding first_of
let_through [] ys e = refl
let_through (x ∷ xs) ys e = go (let_through xs ys) x.applies e
  where
    go : (first_of xs ≡ Ok tt → first_of (xs ++ ys) ≡ first_of ys) → (b : Bool) → cond b (Err x.refusal) (first_of xs) ≡ Ok tt → cond b (Err x.refusal) (first_of (xs ++ ys)) ≡ first_of ys
    go later true k = absurd (let z : ◌≡◌ {A = ℕ} 1 0 = cc in omega arith)
    go later false k = later k

-- all of them stand before q
abbrev pub before : Refusal → List Rule → Bool
before q [] = true
before q (x ∷ xs) = ltb (place_of x.refusal) (place_of q) && before q xs

-- so that where q is met that is asked last, and all before it have other places, it applies and they let the call through
pub asked_last_first : (xs : List Rule) (q : Refusal) (b : Bool) → T (before q xs) → first_of (xs ++ (rule q b ∷ [])) ≡ Err q → (first_of xs ≡ Ok tt) × (b ≡ true)
unfolding first_of
asked_last_first [] q true k e = (refl, refl)
asked_last_first [] q false k e = absurd (let z : ◌≡◌ {A = ℕ} 0 1 = cc in omega arith)
asked_last_first (x ∷ xs) q b k e = go (asked_last_first xs q b (and_r (ltb (place_of x.refusal) (place_of q)) (before q xs) k)) x.applies e
  where
    go : (first_of (xs ++ (rule q b ∷ [])) ≡ Err q → (first_of xs ≡ Ok tt) × (b ≡ true)) → (c : Bool) → cond c (Err x.refusal) (first_of (xs ++ (rule q b ∷ []))) ≡ Err q → (cond c (Err x.refusal) (first_of xs) ≡ Ok tt) × (b ≡ true)
    go later true w =
        let same : x.refusal ≡ q = cc in
        let places = ap place_of same in
        let less = ltb→lt (place_of x.refusal) (place_of q) (and_l (ltb (place_of x.refusal) (place_of q)) (before q xs) k) in
        absurd (let z : ⊥ = omega (arith, places, less) in z)
    go later false w = later w

-- no rule that applies is of q
abbrev pub absent : Refusal → List Rule → Bool
absent q [] = true
absent q (x ∷ xs) = (not (eqb (place_of x.refusal) (place_of q)) || not x.applies) && absent q xs

pub never_asked : (xs : List Rule) (q : Refusal) → T (absent q xs) → first_of xs ≡ Err q → ⊥
never_asked xs q k e = go xs k ((first_applies q xs).0 e)
  where
    other : (b c : Bool) → T (not b || not c) → T b → c ≡ true → ⊥
    other true true h t e = h
    other true false h t e = let z : ◌≡◌ {A = ℕ} 0 1 = cc in omega arith
    other false c h t e = t

    go : (xs : List Rule) → T (absent q xs) → First q xs → ⊥
    go [] k f = f
    go (x ∷ xs) k (inl e) =
        other (eqb (place_of x.refusal) (place_of q)) x.applies (and_l (not (eqb (place_of x.refusal) (place_of q)) || not x.applies) (absent q xs) k) (rw e.1 (eqb_refl (place_of q))) e.0
    go (x ∷ xs) k (inr e) = go xs (and_r (not (eqb (place_of x.refusal) (place_of q)) || not x.applies) (absent q xs) k) e.1
