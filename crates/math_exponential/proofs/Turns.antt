-- One turn of the exponential's series, as the loop's counter falls.
use Rattle.std.proofs.Common.{◌≡◌, ℕ, zero, suc, ◌+◌, ◌-◌, ◌<◌, ◌≤◌, pos, refl, sub-one, arith}
use lib.Ieee.{Float, binary64, of_int}
use Rattle.math_exponential.specs.Exp.{turn_of, series_of}

pub series_turn : (x : Float) (last k : ℕ) (p : Float) → 0 < k
    → series_of x last (k - 1) (turn_of x p (of_int binary64 (pos (last + (k - 1))))) ≡ series_of x last k p
unfolding series_of
series_turn x last zero p h = absurd (let z : ⊥ = omega arith in z)
series_turn x last (suc k) p h = simp sub-one

pub series_end : (x : Float) (last k : ℕ) (p : Float) → k ≤ 0 → series_of x last k p ≡ p
unfolding series_of
series_end x last zero p h = refl
series_end x last (suc k) p h = absurd (let z : ⊥ = omega arith in z)
