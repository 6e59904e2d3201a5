-- Document 01, "exp" and "exp_m1": every operation rounds once, in the order written. The rounded operations are ⊕ ⊖ ⊗ ⊘.
use Rattle.std.specs.Prelude.{ℕ, zero, suc, ◌+◌, ◌*◌, ◌/◌, Bool, false, cond, not, ◌&&◌, ℤ, pos, ◌-ℤ◌, neg_ℤ, int_div, is_nan, nat_le, Float}
use Rattle.std.specs.Float.{nan, inf, fin, binary64}
use Rattle.std.specs.Float.Ieee.{up, down, lt, le, of_int}
use Rattle.ieee.specs.Rounded.{◌⊕◌, ◌⊖◌, ◌⊗◌, ◌⊘◌}
use Rattle.ieee.specs.Numbers as Numbers
use Rattle.ieee.specs.Numbers.{one, half}
use Rattle.math_elementary.specs.Constants.{log2e, ln2hi, ln2lo, exp_top, exp_bottom}
use Rattle.math_elementary.specs.Simple.{abs_of}

-- "the whole number nearest to" x, "ties away from zero": the whole part of |x| + 1/2, worked out exactly, with the sign of x
unfoldable pub nearest_whole : Float → ℤ
nearest_whole nan = pos 0
nearest_whole (inf s) = pos 0
nearest_whole (fin s m e) = let n = (2 * (m * up e) + down e) / (2 * down e) in cond s (neg_ℤ (pos n)) (pos n)

-- "k is the whole number nearest to the rounded product of the argument and 1.4426950408889634"
abbrev pub k_of : Float → ℤ
k_of x = nearest_whole (x ⊗ log2e)

-- "r = (argument - k × 0.693147180369123816490) - k × 1.90821492927058770002e-10"
abbrev pub reduced_of : Float → ℤ → Float
reduced_of x k = (x ⊖ of_int binary64 k ⊗ ln2hi) ⊖ of_int binary64 k ⊗ ln2lo

-- a turn of the series: 1 + (x × p)/n
abbrev pub turn_of : Float → Float → Float → Float
turn_of x p n = one ⊕ (x ⊗ p) ⊘ n

-- p becomes that for n = last + k - 1 down to last, in k turns
unfoldable pub series_of : Float → ℕ → ℕ → Float → Float
series_of x last zero p = p
series_of x last (suc k) p = series_of x last k (turn_of x p (of_int binary64 (pos (last + k))))

-- 2 ^ a, exactly
abbrev pub two_to : ℤ → Float
two_to a = fin false 1 a

-- "p × 2^a × 2^b, a being k/2 toward zero and b = k - a"
abbrev pub scale_of : Float → ℤ → Float
scale_of p k = let a = int_div k (pos 2) in p ⊗ two_to a ⊗ two_to (k -ℤ a)

-- from -746 to 710: "p starts at 1, and for n = 13 down to 1 becomes 1 + (r × p)/n"
abbrev pub exp_within : Float → Float
exp_within x = let k = k_of x in scale_of (series_of (reduced_of x k) 1 13 one) k

-- "NaN gives NaN; above 710 infinity; below -746 +0. Else .."
unfoldable pub exp_of : Float → Float
exp_of x =
    cond (is_nan x) nan
    (cond (lt exp_top x) (inf false)
    (cond (lt x exp_bottom) Numbers.zero
    (exp_within x)))

-- "for |y| <= 0.5, y × q, where q starts at 1 and for n = 17 down to 2 becomes 1 + (y × q)/n; else exp(y) - 1"
unfoldable pub exp_m1_of : Float → Float
unfolding exp_of
exp_m1_of y = cond (le (abs_of y) half) (y ⊗ series_of y 2 16 one) (exp_of y ⊖ one)

-- ---- for contracts of the parts of exp
-- none of the cases that come before the series of exp
abbrev pub within_limits : Float → Bool
within_limits x = not (is_nan x) && not (lt exp_top x) && not (lt x exp_bottom)

-- finite, and at most 1200 in size: what the code's way to the nearest whole number asks
abbrev pub moderate : Float → Bool
moderate nan = false
moderate (inf s) = false
moderate (fin s m e) = nat_le (m * up e) (1200 * down e)
