-- Document 01, "ln": every operation rounds once, in the order written.
use Rattle.std.specs.Prelude.{◌≡◌, false, true, cond, ℕ, suc, ◌+◌, ◌-◌, ◌*◌, ◌^◌, T, leb, ℤ, pos, ◌+ℤ◌, Float}
use Prim.Native.Nat as Nat
use Rattle.std.specs.Float.{nan, inf, fin, binary64}
use Rattle.std.specs.Float.Ieee.{up, down, minus, size, lt, le, eq, is_nan, of_int}
use Rattle.std.specs.Float.Ieee.Positive.{num, den}
use Rattle.ieee.specs.Rounded.{◌⊕◌, ◌⊖◌, ◌⊗◌, ◌⊘◌}
use Rattle.ieee.specs.Decimal.{decimal}
use Rattle.ieee.specs.Numbers.{zero, one, two}
use Rattle.math_elementary.specs.Constants.{ln2hi, ln2lo}

-- How many places n is moved down to lie from 0.75 up and below 1.5. n / 2 ^ size n lies from 0.5 up and below 1. From 0.75 up that is m, and n is moved down size n places; below, twice that is m, and it is one place less.
unfoldable pub places : ℕ → ℕ
places n = cond (leb (3 * 2 ^ size n) (4 * n)) (size n) (size n - 1)

-- "split exactly as m × 2^k", for an x that is finite and above zero
unfoldable pub significand_of : Float → Float
unfolding places
significand_of nan = nan
significand_of (inf s) = nan
significand_of (fin s n e) = fin false n (minus 0 (places n))

unfoldable pub exponent_of : Float → ℤ
unfolding places
exponent_of nan = pos 0
exponent_of (inf s) = pos 0
exponent_of (fin s n e) = e +ℤ pos (places n)

-- "0.75 <= m < 1.5", and m × 2^k is x, with each number a fraction and the denominators multiplied out: a promise of `ln`, of every f64 above zero, subnormals included
pub record ExactSplit (x m : Float) (k : ℤ) : Type 0 where
  pub from : T (le (decimal 75 2) m)
  pub below : T (lt m (decimal 15 1))
  pub exact : num m * up k * den x ≡ num x * (den m * down k)

-- t "becomes 1/n + z × t" for n = 2 × k - 1 down to 1 by twos, in k turns
unfoldable pub odd_series_of : Float → ℕ → Float → Float
odd_series_of z Nat.zero t = t
odd_series_of z (suc k) t = odd_series_of z k (one ⊘ of_int binary64 (pos (2 * k + 1)) ⊕ z ⊗ t)

-- "s = (m-1)/(m+1), z = s × s; t starts at 0, and for n = 25, 23, .. 1 becomes 1/n + z × t. The result is k times the first ln constant above + (2 × (s × t) + k times the second)."
abbrev pub joined_of : Float → ℤ → Float
joined_of m k =
    let s = (m ⊖ one) ⊘ (m ⊕ one) in
    let t = odd_series_of (s ⊗ s) 13 zero in
    of_int binary64 k ⊗ ln2hi ⊕ (two ⊗ (s ⊗ t) ⊕ of_int binary64 k ⊗ ln2lo)

-- "NaN or below 0 gives NaN, zero gives -infinity, infinity itself. Else .."
unfoldable pub ln_of : Float → Float
unfolding significand_of exponent_of
ln_of x =
    cond (is_nan x) nan
    (cond (lt x zero) nan
    (cond (eq x zero) (inf true)
    (cond (eq x (inf false)) (inf false)
    (joined_of (significand_of x) (exponent_of x)))))
