-- One turn of the series of ln, as the loop's counter falls.
use mathlib.Core.Path.{◌≡◌, refl}
use Prim.Native.Nat.{ℕ, zero, suc, ◌+◌, ◌-◌, ◌*◌, ◌≤◌, ◌<◌}
use native.Mathlib.Omega.{arith}
use native.Mathlib.Numerals.{sub-one}
use lib.Ieee.{Float, binary64, add, mul, div, of_int}
use lib.IntN.{pos}
use Rattle.ieee.specs.Numbers.{one}
use Rattle.math_elementary.specs.Ln.{odd_series_of}

pub odd_turn : (z : Float) (k : ℕ) (t : Float) → 0 < k
    → odd_series_of z (k - 1) (add binary64 (div binary64 one (of_int binary64 (pos (2 * (k - 1) + 1)))) (mul binary64 z t)) ≡ odd_series_of z k t
unfolding odd_series_of
odd_turn z zero t h = absurd (let y : ⊥ = omega arith in y)
odd_turn z (suc k) t h = simp sub-one

pub odd_end : (z : Float) (k : ℕ) (t : Float) → k ≤ 0 → odd_series_of z k t ≡ t
unfolding odd_series_of
odd_end z zero t h = refl
odd_end z (suc k) t h = absurd (let y : ⊥ = omega arith in y)
