-- Numbers in fixed point, between the steps of a chain of fused sums. For contracts of parts below the calls only.
use Rattle.std.specs.Prelude.{ℕ, ◌+◌, ◌-◌, ◌*◌, ◌^◌, ◌≤◌, ◌≡◌, false, T, Float}
use Rattle.std.specs.Float.{binary64}
use Rattle.std.specs.Float.Ieee.{round, fits}
use Rattle.std.specs.Float.Ieee.Exact.{HasValue}
use Rattle.ieee.specs.Fused.{fused_of}

-- a stands for x, with so many places: x is a / 2 ^ places. (Over the one denominator 2 ^ 64, for places up to that.)
pub record Held (x : Float) (a places : ℕ) : Type 0 where
  pub fitted : T (fits binary64 x)
  pub value : HasValue x false (a * 2 ^ (64 - places)) (2 ^ 64)

-- h + s / 2, with so many places, rounded to an f64
abbrev pub settled_of : ℕ → ℕ → ℕ → Float
settled_of h s places = round binary64 false ((2 * h + s) * 2 ^ (63 - places)) (2 ^ 64)

-- r stands for that, with whatever places, and is hardly more than h
pub record Settled (h s r : ℕ) : Type 0 where
  pub most : r ≤ h + 512
  pub value : (g : ℕ) → g ≤ 60 → Held (settled_of h s g) r g

-- r stands for the fused sum of a, y and c, with whatever places c has: y has 62, a two more than c
pub record Stepped (a y c r : ℕ) : Type 0 where
  pub most : r ≤ a + c + 512
  pub value : (g : ℕ) (x z k : Float) → g ≤ 60 → Held x a (g + 2) → Held z y 62 → Held k c g → Held (fused_of x z k) r g

-- r is that fused sum
abbrev pub SteppedLast : ℕ → ℕ → ℕ → ℕ → Float → Type 0
SteppedLast a y c g r = (x z k : Float) → Held x a (g + 2) → Held z y 62 → Held k c g → r ≡ fused_of x z k
