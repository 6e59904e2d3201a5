-- The whole part of the square root of a natural number: `root n` is the largest q with q * q at most n (`root_bounds`). Assumes nothing.
use Rattle.std.specs.Prelude.{ℕ, zero, suc, ◌+◌, ◌-◌, ◌*◌, ◌/◌, ◌^◌, ◌≤◌, ◌<◌, min, ◌≡◌, Bool, true, false, not, cond, T, leb}
use Rattle.std.proofs.Common.{lt_of_lt_of_le, arith, subst, leb→le, pow_mono, shr_lt}
use Rattle.std.proofs.Math.Dec.{nleb→lt}
use Rattle.std.specs.Float.Ieee.{size}
use Rattle.std.specs.Float.Ieee.Digits.{size-lt}

-- The whole part of √n for an n of at most k pairs of binary digits. Each pair gives the root one digit: the root of n / 4, doubled, and 1 more where the square of that is at most n.
unfoldable pub root_by : ℕ → ℕ → ℕ
root_by zero n = 0
root_by (suc k) n = let q = 2 * root_by k (n / 4) in q + cond (leb (suc q * suc q) n) 1 0

-- the whole part of √n
unfoldable pub root : ℕ → ℕ
unfolding root_by size
root n = root_by ((size n + 1) / 2) n

-- ---- that it is the largest q with q * q at most n

-- what one pair adds: 1 or 0 to a q with q * q ≤ n < (q + 2) * (q + 2)
digit : (n q : ℕ) → (b : Bool) → (T b → suc q * suc q ≤ n) → (T (not b) → n < suc q * suc q) → q * q ≤ n → n < suc (suc q) * suc (suc q)
    → ((q + cond b 1 0) * (q + cond b 1 0) ≤ n) × (n < suc (q + cond b 1 0) * suc (q + cond b 1 0))
digit n q true f g l h = let k = f tt in (omega arith, omega arith)
digit n q false f g l h = let k = g tt in (omega arith, omega arith)

root_by_bounds : (k n : ℕ) → n < 2 ^ (k + k) → (root_by k n * root_by k n ≤ n) × (n < suc (root_by k n) * suc (root_by k n))
unfolding root_by
root_by_bounds zero n h = (omega arith, omega arith)
root_by_bounds (suc k) n h =
    let r = root_by k (n / 4) in
    let b = root_by_bounds k (n / 4) (fewer k n h) in
    digit n (2 * r) (leb (suc (2 * r) * suc (2 * r)) n) (leb→le (suc (2 * r) * suc (2 * r)) n) (nleb→lt (suc (2 * r) * suc (2 * r)) n) (low n r b.0) (high n r b.1)
  where
    two : (k : ℕ) → suc k + suc k ≡ k + k + 2
    two k = omega arith

    fewer : (k n : ℕ) → n < 2 ^ (suc k + suc k) → n / 4 < 2 ^ (k + k)
    fewer k n h = shr_lt (k + k) 2 (subst (λ (x : ℕ). n < 2 ^ x) (two k) h)

    low : (n r : ℕ) → r * r ≤ n / 4 → 2 * r * (2 * r) ≤ n
    low n r h = omega arith

    high : (n r : ℕ) → n / 4 < suc r * suc r → n < suc (suc (2 * r)) * suc (suc (2 * r))
    high n r h = omega arith

-- the square of `root n` is at most n, and that of the next number is above n
pub root_bounds : (n : ℕ) → (root n * root n ≤ n) × (n < suc (root n) * suc (root n))
unfolding root
root_bounds n = root_by_bounds ((size n + 1) / 2) n (lt_of_lt_of_le (size-lt n) (pow_mono (pairs (size n))))
  where
    pairs : (z : ℕ) → z ≤ (z + 1) / 2 + (z + 1) / 2
    pairs z = omega arith

-- ---- for a private function's contract
-- the whole part of √n, and below it a sticky digit: 1 where that is not all of the root
abbrev pub sticky_root : ℕ → ℕ
sticky_root n = 2 * root n + min (n - root n * root n) 1
