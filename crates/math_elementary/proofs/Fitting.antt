-- What the digits and the exponent of a finite f64 are bounded by. Assumes nothing.
use mathlib.Core.Path.{◌≡◌}
use mathlib.Core.Bool.{Bool}
use Prim.Native.Nat.{ℕ, zero, suc, ◌*◌, ◌^◌, ◌<◌, ◌≤◌}
use native.Mathlib.Omega.{arith}
use native.Mathlib.Nat.{lt_of_not-le, not-le_of_lt, le_of_suc-le-suc, pow-suc}
use lib.Dec.{T, leb→le, ltb→lt, eqb→eq, lit<, lit≤}
use lib.Pow.{pow-lt}
use lib.IntN.{ℤ, pos, negsuc}
use lib.Ieee.{fin, binary64, down, fits}
use lib.Ieee.Fits.{and_l, and_r}

pub pow_inj : (i j : ℕ) → 2 ^ i ≤ 2 ^ j → i ≤ j
pow_inj i j h = le_of_suc-le-suc (lt_of_not-le (λ (g : suc j ≤ i). not-le_of_lt (pow-lt g) h))

pub fits_digits : (s : Bool) (m : ℕ) (e : ℤ) → T (fits binary64 (fin s m e)) → m < 2 ^ 53
unfolding fits
fits_digits s zero e f = lit< tt
fits_digits s (suc m) e f = ltb→lt (suc m) (2 ^ 53) (search (and_l, and_r))

pub fits_low : (s : Bool) (m : ℕ) (e : ℤ) → T (fits binary64 (fin s m e)) → down e ≤ 2 ^ 1074
unfolding fits
fits_low s zero (pos k) f = lit≤ tt
fits_low s zero (negsuc k) f = absurd (never (2 ^ suc k) (eqb→eq (1 * 2 ^ suc k) 1 f) (pow-suc 2 k))
  where
    never : (p : ℕ) → 1 * p ≡ 1 → p ≡ 2 ^ k * 2 → ⊥
    never p a b = omega arith
fits_low s (suc m) e f = leb→le (down e) (2 ^ 1074) (search (and_l, and_r))
