-- The line of f64: two values with no f64 between them, and two values at most 2^-100 apart.
use Rattle.std.specs.Prelude.{◌≡◌, refl, ℕ, suc, ◌+◌, ◌-◌, ◌*◌, ◌^◌, ◌≤◌, Bool, true, false, ◌⊎◌, T, ℤ, pos, negsuc, Float}
use Rattle.std.specs.Float.{nan, inf, fin, Format, binary64}
use Rattle.std.specs.Float.Ieee.{low, fits, lt}
use Rattle.std.specs.Float.Ieee.Scale.{overflow}

-- A finite value of a format is a whole number of units, one unit being its smallest value, 2^-low (of f64: 2^-1074).
-- 2^e in units
abbrev pub shift : ℕ → ℤ → ℕ
shift l (pos k) = k + l
shift l (negsuc k) = l - suc k

-- how many units a finite value is from zero: that of m × 2^e is m × 2^(e + low)
unfoldable pub mag : Format → Float → ℕ
mag f nan = 0
mag f (inf s) = 0
mag f (fin s m e) = m * 2 ^ shift (low f) e

-- x units above o, or below it where the sign says so
abbrev pub from : ℕ → Bool → ℕ → ℕ
from o false x = o + x
from o true x = o - x

-- The place of a finite value, so that every place is a natural number: how many units it lies above -2^(emax + 1), below which the
-- format has none (of f64: above -2^1024). The distance of two values is the difference of their places.
unfoldable pub place : Format → Float → ℕ
unfolding mag
place f nan = 0
place f (inf s) = 0
place f (fin s m e) = from (overflow f) s (mag f (fin s m e))

-- the places of 0, 1, -1, the smallest value above 0, and 2^-100
pub record PlacesAre : Type 0 where
  pub at_zero : place binary64 (fin false 0 (pos 0)) ≡ 2 ^ 2098
  pub at_one : place binary64 (fin false 1 (pos 0)) ≡ 2 ^ 2098 + 2 ^ 1074
  pub at_minus_one : place binary64 (fin true 1 (pos 0)) ≡ 2 ^ 2098 - 2 ^ 1074
  pub at_smallest : place binary64 (fin false 1 (negsuc 1073)) ≡ 2 ^ 2098 + 1
  pub at_hundredth : place binary64 (fin false 1 (negsuc 99)) ≡ 2 ^ 2098 + 2 ^ 974

pub places_are : PlacesAre
unfolding place
places_are = record { at_zero = refl; at_one = refl; at_minus_one = refl; at_smallest = refl; at_hundredth = refl }

-- no value of the format lies strictly between
abbrev pub Neighbours : Format → Float → Float → Type 0
Neighbours f lo hi = (z : Float) → T (fits f z) → T (lt lo z) → T (lt z hi) → ⊥

-- hi lies at most 2^e units above lo
abbrev pub Within : Format → ℕ → Float → Float → Type 0
Within f e lo hi = place f hi ≤ place f lo + 2 ^ e

-- Demand 3: no f64 strictly between, or at most 2^-100 apart, which is 2^974 units of 2^-1074
abbrev pub Tight : Float → Float → Type 0
Tight lo hi = Neighbours binary64 lo hi ⊎ Within binary64 974 lo hi
