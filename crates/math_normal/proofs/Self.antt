-- A value that the format holds rounds to itself; and what is below such a value rounds to no more than it.
use mathlib.Core.Path.{◌≡◌, refl, sym, ap, ◌∙◌, subst}
use mathlib.Core.Bool.{Bool, true, false}
use Prim.Native.Nat.{ℕ, zero, suc, ◌+◌, ◌-◌, ◌*◌, ◌^◌, ◌<◌, ◌≤◌}
use native.Mathlib.Omega.{arith}
use native.Mathlib.Nat.{le_of_eq, lt_of_le_of_lt, lt_of_lt_of_le, lt_of_not-le, not-le_of_lt, mul-one, mul_assoc, mul_comm, mul_left_comm, mul-le-mul_right, mul-lt-mul_of_pos_right}
use lib.Dec.{T, eqb, ltb→lt, eqb→eq}
use lib.Pow.{pow_pos, pow-add}
use lib.IntN.{ℤ, pos, negsuc}
use lib.Ieee.{Float, nan, inf, fin, binary64, up, down, round, fits}
use lib.Ieee.Exact.{round_exact}
use lib.Ieee.Fits.{and_l, and_r, down_pos, round-fits}
use lib.Ieee.Positive.{num, den, den_pos}
use Rattle.math_elementary.proofs.Fitting.{fits_digits, fits_low, pow_inj}
use Rattle.math_elementary.proofs.Digits53.{lift}
use Rattle.math_elementary.proofs.Floats.{zero_exp}
use Rattle.math_elementary.proofs.Unique.{value_unique}
use Rattle.math_normal.proofs.NonNeg.{nn, Below, round_below}

lifted : (m : ℕ) (e : ℤ) → down e ≤ 2 ^ 1074 → m * up e * 2 ^ 1074 ≡ m * 2 ^ lift e * down e
lifted m (pos k) h = go 1074
  where
    go : (l : ℕ) → m * 2 ^ k * 2 ^ l ≡ m * 2 ^ (k + l) * 1
    go l = rw (pow-add 2 k l) (simp (mul_assoc, mul-one))
lifted m (negsuc k) h = go 1074 (pow_inj (suc k) 1074 h)
  where
    go : (l : ℕ) → suc k ≤ l → m * 1 * 2 ^ l ≡ m * 2 ^ (l - suc k) * 2 ^ suc k
    go l g = ap (λ (x : ℕ). x * 2 ^ l) (mul-one m) ∙ ap (λ (x : ℕ). m * x) (ap (λ (x : ℕ). 2 ^ x) (let q : l ≡ l - suc k + suc k = omega arith in q) ∙ pow-add 2 (l - suc k) (suc k)) ∙ sym (mul_assoc m (2 ^ (l - suc k)) (2 ^ suc k))

fits_top : (s : Bool) (m : ℕ) (e : ℤ) → T (fits binary64 (fin s (suc m) e)) → suc m * up e < 2 ^ 1024 * down e
unfolding fits
fits_top s m e f = ltb→lt (suc m * up e) (2 ^ 1024 * down e) (search (and_l, and_r))

lt_cancel : (a b c : ℕ) → a * c < b * c → a < b
lt_cancel a b c h = lt_of_not-le (λ (g : b ≤ a). not-le_of_lt h (mul-le-mul_right c g))

room : (l t m u d j : ℕ) → m * u < 2 ^ t * d → m * u * 2 ^ l ≡ m * 2 ^ j * d → m * 2 ^ j < 2 ^ (l + t)
room l t m u d j h e =
    lt_cancel (m * 2 ^ j) (2 ^ (l + t)) d
    (lt_of_le_of_lt (le_of_eq (sym e)) (lt_of_lt_of_le (mul-lt-mul_of_pos_right h (pow_pos l)) (le_of_eq (rw (pow-add 2 l t) (simp (mul_assoc, mul_comm, mul_left_comm))))))

zero_fits : (e : ℤ) → T (fits binary64 (fin false zero e)) → T (eqb (up e * down e) 1)
unfolding fits
zero_fits e f = f

zero_self : (e : ℤ) → e ≡ pos 0 → round binary64 false (zero * up e) (down e) ≡ fin false zero e
unfolding round
zero_self e h = rw h

pub round_self : (x : Float) → T (fits binary64 x) → T (nn x) → round binary64 false (num x) (den x) ≡ x
round_self nan f p = absurd p
round_self (inf s) f p = absurd p
round_self (fin true m e) f p = absurd p
round_self (fin false zero e) f p = zero_self e (zero_exp e (eqb→eq (up e * down e) 1 (zero_fits e f)))
round_self (fin false (suc m) e) f p =
    let q = lifted (suc m) e (fits_low false (suc m) e f) in
    value_unique binary64 (round binary64 false (suc m * up e) (down e)) (fin false (suc m) e) false (suc m * up e) (down e) (suc m * up e) (down e) (down_pos e) (down_pos e)
    (round-fits binary64 false (suc m * up e) (down e)) f
    (round_exact binary64 false (suc m * up e) (down e) (suc m) (lift e) (down_pos e) (fits_digits false (suc m) e f) (room 1074 1024 (suc m) (up e) (down e) (lift e) (fits_top false m e f) q) q)
    (refl, refl) refl

-- what is at most x rounds to at most x
pub round_upto : (a c : ℕ) (x : Float) → 0 < c → T (fits binary64 x) → T (nn x) → a * den x ≤ num x * c → Below (round binary64 false a c) x
round_upto a c x C f p h =
    let s = round_self x f p in
    subst (λ (y : Float). Below (round binary64 false a c) y) s
    (round_below binary64 a c (num x) (den x) C (den_pos x) h (subst (λ (y : Float). T (nn y)) (sym s) p))
