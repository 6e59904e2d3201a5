-- Whether two values are the same one, the sign of a zero told: what a computed table of cases compares by. `same_is` turns the test into an equation.
use Rattle.std.specs.Prelude.{◌≡◌, refl, Bool, true, false, ◌&&◌, ℕ, T, eqb, ℤ, pos, negsuc, Float}
use Rattle.std.proofs.Common.{ap, ◌∙◌, eqb→eq}
use Rattle.std.specs.Bool.{beq}
use Rattle.std.specs.Float.{nan, inf, fin}
use Rattle.std.specs.Float.Ieee.Fits.{and_l, and_r}

abbrev sameℤ : ℤ → ℤ → Bool
sameℤ (pos a) (pos b) = eqb a b
sameℤ (pos a) (negsuc b) = false
sameℤ (negsuc a) (pos b) = false
sameℤ (negsuc a) (negsuc b) = eqb a b

abbrev pub same : Float → Float → Bool
same nan nan = true
same nan (inf t) = false
same nan (fin t n d) = false
same (inf s) nan = false
same (inf s) (inf t) = beq s t
same (inf s) (fin t n d) = false
same (fin s m e) nan = false
same (fin s m e) (inf t) = false
same (fin s m e) (fin t n d) = beq s t && eqb m n && sameℤ e d

sign_is : (s t : Bool) → T (beq s t) → s ≡ t
sign_is true true h = refl
sign_is true false h = absurd h
sign_is false true h = absurd h
sign_is false false h = refl

exponent_is : (e d : ℤ) → T (sameℤ e d) → e ≡ d
exponent_is (pos a) (pos b) h = ap pos (eqb→eq a b h)
exponent_is (pos a) (negsuc b) h = absurd h
exponent_is (negsuc a) (pos b) h = absurd h
exponent_is (negsuc a) (negsuc b) h = ap negsuc (eqb→eq a b h)

pub same_is : (x y : Float) → T (same x y) → x ≡ y
same_is nan nan h = refl
same_is nan (inf t) h = absurd h
same_is nan (fin t n d) h = absurd h
same_is (inf s) nan h = absurd h
same_is (inf s) (inf t) h = ap inf (sign_is s t h)
same_is (inf s) (fin t n d) h = absurd h
same_is (fin s m e) nan h = absurd h
same_is (fin s m e) (inf t) h = absurd h
same_is (fin s m e) (fin t n d) h =
    let front : T (beq s t && eqb m n) = and_l (beq s t && eqb m n) (sameℤ e d) h in
    ap (λ (u : Bool). fin u m e) (sign_is s t (and_l (beq s t) (eqb m n) front))
    ∙ ap (λ (u : ℕ). fin t u e) (eqb→eq m n (and_r (beq s t) (eqb m n) front))
    ∙ ap (λ (u : ℤ). fin t n u) (exponent_is e d (and_r (beq s t && eqb m n) (sameℤ e d) h))
