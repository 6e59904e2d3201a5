-- What rule 13 looks at in a fit, and ends that agree in every field. Assumes nothing.
use mathlib.Core.Path.{◌≡◌, refl}
use mathlib.Core.Bool.{Bool, true, false, ◌&&◌}
use Prim.Native.Nat.{ℕ}
use native.Mathlib.Omega.{arith}
use lib.Ieee.Scale.{finite}
use Rattle.math_bisection.specs.declared.halving.Ends.{Ends}
use Rattle.math_bisection.specs.declared.result.Fit.{Fit}

-- what rule 13 looks at
abbrev pub all_finite : Fit → Bool
all_finite fit =
    let e = fit.ends in
    finite fit.sigma && finite fit.residual && finite e.low && finite e.high && finite e.low_residual && finite e.high_residual

-- ---- four tests, all of them passed
no_true : {A : Type 0} → false ≡ true → A
no_true h = let z : ◌≡◌ {A = ℕ} 0 1 = cc in absurd (omega arith)

both : (a b : Bool) → (a && b) ≡ true → (a ≡ true) × (b ≡ true)
both true b h = (refl, h)
both false b h = no_true h

pub same_ends : (x y : Ends) (a b c d : Bool) → (a ≡ true → x.low ≡ y.low) → (b ≡ true → x.high ≡ y.high) → (c ≡ true → x.low_residual ≡ y.low_residual) → (d ≡ true → x.high_residual ≡ y.high_residual)
    → (a && b && c && d) ≡ true → x ≡ y
same_ends x y a b c d p q r s h =
    let (abc, d') = both (a && b && c) d h in
    let (ab, c') = both (a && b) c abc in
    let (a', b') = both a b ab in
    λ i. record { low = p a' i; high = q b' i; low_residual = r c' i; high_residual = s d' i }
