-- The forms in which the code holds a finite f64, taken apart: natural numbers in a fixed unit, so that no exponent is negative.
use Rattle.std.specs.Prelude.{◌≡◌, Bool, ℕ, ◌+◌, ◌*◌, ◌%◌, ◌^◌, ◌≤◌, ◌<◌, Float}
use Rattle.std.specs.Float.Ieee.Exact.{HasValue}

-- The significand m and the exponent e of m * 2 ^ e at full width: m has 61 binary digits, of which the last 8 are 0, or m and e are 0.
pub record Normal (m e : ℕ) : Type 0 where
  pub under : m < 2 ^ 61
  pub over : 0 < m → 2 ^ 60 ≤ m
  pub zero : m ≡ 0 → e ≡ 0
  pub tail : m % 2 ^ 8 ≡ 0
  pub small : e < 2 ^ 12

-- x is finite, has the sign s, and is m * 2 ^ e in units of 2 ^ -1138, at full width
pub record Unpacked (x : Float) (s : Bool) (m e : ℕ) : Type 0 where
  pub value : HasValue x s (m * 2 ^ e) (2 ^ 1138)
  pub normal : Normal m e

-- x is finite, and its bit pattern has the sign s, the exponent's field e and the digits t: with a field of 0, a subnormal's, there is no leading digit. In units of 2 ^ -1138.
pub record Fields (x : Float) (s : Bool) (e t : ℕ) : Type 0 where
  pub field : e < 2 ^ 11
  pub digits : t < 2 ^ 52
  pub low : e ≡ 0 → HasValue x s (t * 2 ^ 64) (2 ^ 1138)
  pub high : 0 < e → HasValue x s ((t + 2 ^ 52) * 2 ^ (e + 63)) (2 ^ 1138)
