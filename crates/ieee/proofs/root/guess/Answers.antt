-- `ieee::root::guess` meets its contract. A square lies below the chord through its values at the ends of a power of two; so what is taken off is small enough, and the parabola lies above its own chord. Assumes nothing.
use mathlib.Core.Path.{◌≡◌, subst₂}
use Prim.Native.Nat.{ℕ, ◌+◌, ◌-◌, ◌*◌, ◌/◌, ◌^◌, ◌≤◌, ◌<◌}
use native.Mathlib.Nat.{lt_of_le_of_lt}
use native.Mathlib.Omega.{arith}
use borrow.Author.Rules.{rules}
use lib.Dec.{lit<}
use mir.Syntax.{w64}
use mir.Val.{Fits}
use Rattle.ieee.proofs.Roots.{sq_le}
use Rattle.ieee.proofs.root.guess.Goals as goal

chord : (w t : ℕ) → w ≤ t → t ≤ w + w → t * t + 2 * (w * w) ≤ 3 * (w * t)
chord w t l h = subst₂ (λ (a b : ℕ). b * b + 2 * (a * a) ≤ 3 * (a * b)) (low w t l h) (high w t l h) (parts (t - w) (w + w - t))
  where
    parts : (u v : ℕ) → (u + (u + v)) * (u + (u + v)) + 2 * ((u + v) * (u + v)) ≤ 3 * ((u + v) * (u + (u + v)))
    parts u v = omega arith

    low : (w t : ℕ) → w ≤ t → t ≤ w + w → t - w + (w + w - t) ≡ w
    low w t l h = omega arith

    high : (w t : ℕ) → w ≤ t → t ≤ w + w → t - w + (t - w + (w + w - t)) ≡ t
    high w t l h = omega arith

-- what that says of the parabola's t * t / 2^32, in the lower power of two and in the upper
below_first : (s : ℕ) → 2 ^ 60 ≤ s → s < 2 ^ 61 → 16 * (s / 2 ^ 32 * (s / 2 ^ 32) / 2 ^ 32) + 2 ^ 29 ≤ 3 * (s / 2 ^ 32)
below_first s l h = go (s / 2 ^ 32) (omega arith) (omega arith)
  where
    go : (t : ℕ) → 2 ^ 28 ≤ t → t < 2 ^ 29 → 16 * (t * t / 2 ^ 32) + 2 ^ 29 ≤ 3 * t
    go t l h = omega (arith, chord (2 ^ 28) t l (omega arith))

below_second : (s : ℕ) → 2 ^ 61 ≤ s → s < 2 ^ 62 → 8 * (s / 2 ^ 32 * (s / 2 ^ 32) / 2 ^ 32) + 2 ^ 30 ≤ 3 * (s / 2 ^ 32)
below_second s l h = go (s / 2 ^ 32) (omega arith) (omega arith)
  where
    go : (t : ℕ) → 2 ^ 29 ≤ t → t < 2 ^ 30 → 8 * (t * t / 2 ^ 32) + 2 ^ 30 ≤ 3 * t
    go t l h = omega (arith, chord (2 ^ 29) t l (omega arith))

square_fits : (t : ℕ) → t ≤ 2 ^ 30 → Fits w64 (t * t)
square_fits t h = record { fits = lt_of_le_of_lt (sq_le h) (lit< tt) }

pub overflow_mul-q : goal.overflow_mul-q
overflow_mul-q c = square_fits (c.args.s / 2 ^ 32) (search rules)

pub overflow_mul-result-then-s-lt2305843009213693952 : goal.overflow_mul-result-then-s-lt2305843009213693952
overflow_mul-result-then-s-lt2305843009213693952 c = omega (arith, below_first c.args.s c.requires.0 c.if-s-lt2305843009213693952.true)

pub overflow_sub-result : goal.overflow_sub-result
overflow_sub-result c = omega (arith, below_first c.args.s c.requires.0 c.if-s-lt2305843009213693952.true)

pub overflow_mul-result-else-s-lt2305843009213693952-2 : goal.overflow_mul-result-else-s-lt2305843009213693952-2
overflow_mul-result-else-s-lt2305843009213693952-2 c = omega (arith, below_second c.args.s c.if-s-lt2305843009213693952.false c.requires.1)

pub overflow_sub-result-else-s-lt2305843009213693952 : goal.overflow_sub-result-else-s-lt2305843009213693952
overflow_sub-result-else-s-lt2305843009213693952 c = omega (arith, below_second c.args.s c.if-s-lt2305843009213693952.false c.requires.1)

pub returns-then-s-lt2305843009213693952 : goal.returns-then-s-lt2305843009213693952
returns-then-s-lt2305843009213693952 c = omega (arith, below_first c.args.s c.requires.0 c.if-s-lt2305843009213693952.true)

pub returns-else-s-lt2305843009213693952 : goal.returns-else-s-lt2305843009213693952
returns-else-s-lt2305843009213693952 c = omega (arith, below_second c.args.s c.if-s-lt2305843009213693952.false c.requires.1)
