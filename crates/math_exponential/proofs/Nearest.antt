-- The whole number nearest to a float of moderate size, by way of twice the float, which is exact.
use Rattle.std.proofs.Common.{◌≡◌, ℕ, zero, suc, ◌+◌, ◌-◌, ◌*◌, ◌/◌, ◌^◌, ◌<◌, ◌≤◌, Bool, true, false, cond, T, ltb, ℤ, pos, negsuc, ◌+ℤ◌, ◌-ℤ◌, neg_ℤ, sym, refl, ap, ◌∙◌, true≢false, le_trans, le_of_eq, lt_of_le_of_lt, mul-le-mul_right, mul_assoc, mul_comm, mul-pos, one-mul, pow-suc, mul-one, mul_right_comm, le_of_mul-le-mul_right, mul_left_comm, arith, lit<, lt→ltb, leb→le, pow-add, le-leb}
use mathlib.Core.Bool.{false≢true}
use native.Mathlib.Nat.{div-div-eq-div-mul, add-div_right, div-le_of_le-mul, min-eq_left}
use lib.Pow.{pow-lt}
use lib.Signed.{quot_z, le_z, mag}
use lib.Ieee.{Float, nan, inf, fin, binary64, up, down, round, mul, lt, le, eq, fits, of_bits, to_signed}
use lib.Ieee.Exact.{HasValue, round_exact}
use lib.Ieee.Nearest.{div_same}
use lib.Ieee.Fits.{down_pos}
use Rattle.math_exponential.specs.Exp.{moderate, nearest_whole}
use Rattle.math_elementary.proofs.AtMost.{or_l}
use Rattle.math_elementary.proofs.Fitting.{pow_inj, fits_digits, fits_low}

-- ---- twice a float is exact
exact_up : (l m k : ℕ) → m * 2 ^ k * 2 * 2 ^ l ≡ m * 2 ^ suc (k + l) * (1 * 1)
exact_up l m k = rw (pow-suc 2 (k + l), pow-add 2 k l) (simp (mul_assoc, mul_comm, mul_left_comm, one-mul))

refill : (l k : ℕ) → suc k ≤ l → 2 ^ (l - suc k) * 2 ^ suc k ≡ 2 ^ l
refill l k h = sym (pow-add 2 (l - suc k) (suc k)) ∙ ap (λ (x : ℕ). 2 ^ x) (let z : l - suc k + suc k ≡ l = omega arith in z)

exact_down : (l m k : ℕ) → suc k ≤ l → m * 1 * 2 * 2 ^ l ≡ m * 2 ^ suc (l - suc k) * (2 ^ suc k * 1)
exact_down l m k h = rw (← (refill l k h), pow-suc 2 (l - suc k)) (simp (mul_assoc, mul_comm, mul_left_comm, one-mul))

mul_lt : (l : ℕ) → 4096 * 2 ^ l < 2 ^ (l + 1024)
mul_lt l = lt_of_le_of_lt (le_of_eq (mul_comm 4096 (2 ^ l) ∙ sym (pow-add 2 l 12))) (pow-lt (omega arith))

room : (l m u d j : ℕ) → 0 < d → m * u ≤ 2048 * d → m * u * 2 * 2 ^ l ≡ m * 2 ^ j * (d * 1) → m * 2 ^ j < 2 ^ (l + 1024)
room l m u d j D h e =
    let a : m * 2 ^ j * d ≤ 4096 * 2 ^ l * d =
    le_trans (le_of_eq (ap (λ (x : ℕ). m * 2 ^ j * x) (sym (mul-one d)) ∙ sym e))
    (le_trans (mul-le-mul_right (2 ^ l) (mul-le-mul_right 2 h)) (le_of_eq (swap d (2 ^ l)))) in
    lt_of_le_of_lt (le_of_mul-le-mul_right a D) (mul_lt l)
  where
    swap : (d p : ℕ) → 2048 * d * 2 * p ≡ 4096 * p * d
    swap d p = ap (λ (x : ℕ). x * p) (let z : 2048 * d * 2 ≡ 4096 * d = omega arith in z) ∙ mul_right_comm 4096 d p

rounds : (s : Bool) (m : ℕ) (e : ℤ) (j : ℕ) → m < 2 ^ 53 → m * up e ≤ 2048 * down e → m * up e * 2 * 2 ^ 1074 ≡ m * 2 ^ j * (down e * 1)
    → HasValue (round binary64 s (m * up e * 2) (down e * 1)) s (m * up e * 2) (down e * 1)
rounds s m e j small h q = round_exact binary64 s (m * up e * 2) (down e * 1) m j (mul-pos (down_pos e) (lit< tt)) small (room 1074 m (up e) (down e) j (down_pos e) h q) q

by_exp : (s : Bool) (m : ℕ) (e : ℤ) → m < 2 ^ 53 → down e ≤ 2 ^ 1074 → m * up e ≤ 2048 * down e → HasValue (round binary64 s (m * up e * 2) (down e * 1)) s (m * up e * 2) (down e * 1)
by_exp s m (pos k) small low h = rounds s m (pos k) (suc (k + 1074)) small h (exact_up 1074 m k)
by_exp s m (negsuc k) small low h = rounds s m (negsuc k) (suc (1074 - suc k)) small h (exact_down 1074 m k (pow_inj (suc k) 1074 low))

abbrev pub two : Float
two = of_bits binary64 0x4000_0000_0000_0000

twice_is : (s : Bool) (m : ℕ) (e : ℤ) → mul binary64 (fin s m e) two ≡ round binary64 s (m * up e * 2) (down e * 1)
unfolding mul of_bits
twice_is true m e = refl
twice_is false m e = refl

pub twice : (s : Bool) (m : ℕ) (e : ℤ) → T (fits binary64 (fin s m e)) → T (moderate (fin s m e)) → HasValue (mul binary64 (fin s m e) two) s (m * up e * 2) (down e * 1)
twice s m e f h = rw (twice_is s m e) (by_exp s m e (fits_digits s m e f) (fits_low s m e f) (let l : m * up e ≤ 1200 * down e = leb→le _ _ h in omega arith))

-- ---- a float of that size, cut to a whole number
abbrev pub signed : Bool → ℕ → ℤ
signed s n = cond s (neg_ℤ (pos n)) (pos n)

cut : (y : Float) (s : Bool) (a c : ℕ) → 0 < c → HasValue y s a c → a / c ≤ 4096 → to_signed 63 y ≡ signed s (a / c)
unfolding to_signed
cut nan s a c C v h = absurd v
cut (inf t) s a c C v h = absurd v
cut (fin t m e) s a c C v h =
    let q : m * up e / down e ≡ a / c = div_same (m * up e) (down e) a c (down_pos e) C v.1 in
    rw (v.0, q, min-eq_left {n = a / c} {m = 2 ^ 63} (omega arith), min-eq_left {n = a / c} {m = 2 ^ 63 - 1} (omega arith))

size_of : (m u d a c : ℕ) → 0 < c → m * u * c ≡ a * d → a ≤ 4096 * c → m * u ≤ 4096 * d
size_of m u d a c C e h = le_of_mul-le-mul_right (le_trans (le_of_eq e) (le_trans (mul-le-mul_right d h) (le_of_eq (mul_right_comm 4096 c d)))) C

inside : (t : Bool) (m : ℕ) (e : ℤ) → m * up e ≤ 4096 * down e → T (le (fin true 1 (pos 63)) (fin t m e)) × T (lt (fin t m e) (fin false 1 (pos 63)))
unfolding le lt
inside true m e h = (or_l (ltb (m * up e * 1) (2 ^ 63 * down e)) (eq (fin true 1 (pos 63)) (fin true m e)) (lt→ltb (m * up e * 1) (2 ^ 63 * down e) (omega (arith, down_pos e))), lt→ltb 0 (m * up e * 1 + 2 ^ 63 * down e) (omega (arith, down_pos e)))
inside false m e h = (or_l (ltb 0 (2 ^ 63 * down e + m * up e * 1)) (eq (fin true 1 (pos 63)) (fin false m e)) (lt→ltb 0 (2 ^ 63 * down e + m * up e * 1) (omega (arith, down_pos e))), lt→ltb (m * up e * 1) (2 ^ 63 * down e) (omega (arith, down_pos e)))

in_range : (y : Float) (s : Bool) (a c : ℕ) → 0 < c → HasValue y s a c → a ≤ 4096 * c → T (le (fin true 1 (pos 63)) y) × T (lt y (fin false 1 (pos 63)))
in_range nan s a c C v h = absurd v
in_range (inf t) s a c C v h = absurd v
in_range (fin t m e) s a c C v h = inside t m e (size_of m (up e) (down e) a c C v.1 h)

-- ---- what the code asks and gives, for a float of moderate size
pub doubled_in_range : (p : Float) → T (fits binary64 p) → T (moderate p) → T (le (fin true 1 (pos 63)) (mul binary64 p two)) × T (lt (mul binary64 p two) (fin false 1 (pos 63)))
doubled_in_range nan f h = absurd h
doubled_in_range (inf s) f h = absurd h
doubled_in_range (fin s m e) f h =
    in_range (mul binary64 (fin s m e) two) s (m * up e * 2) (down e * 1) (mul-pos (down_pos e) (lit< tt)) (twice s m e f h) (let l : m * up e ≤ 1200 * down e = leb→le _ _ h in omega arith)

-- its sign, and the whole part of twice its size
abbrev pub sgn : Float → Bool
sgn nan = false
sgn (inf s) = s
sgn (fin s m e) = s

abbrev pub halves : Float → ℕ
halves nan = 0
halves (inf s) = 0
halves (fin s m e) = m * up e * 2 / (down e * 1)

pub halves_le : (p : Float) → T (moderate p) → halves p ≤ 2400
halves_le nan h = absurd h
halves_le (inf s) h = absurd h
halves_le (fin s m e) h = div-le_of_le-mul (down e * 1) (let l : m * up e ≤ 1200 * down e = leb→le _ _ h in omega arith)

pub doubled_cut : (p : Float) → T (fits binary64 p) → T (moderate p) → to_signed 63 (mul binary64 p two) ≡ signed (sgn p) (halves p)
doubled_cut nan f h = absurd h
doubled_cut (inf s) f h = absurd h
doubled_cut (fin s m e) f h = cut (mul binary64 (fin s m e) two) s (m * up e * 2) (down e * 1) (mul-pos (down_pos e) (lit< tt)) (twice s m e f h) (omega (arith, halves_le (fin s m e) h))

half_up : (a d : ℕ) → 0 < d → (2 * a + d) / (2 * d) ≡ (a * 2 / (d * 1) + 1) / 2
half_up a d D =
    ap (λ (x : ℕ). (2 * a + d) / x) (mul_comm 2 d)
    ∙ sym (div-div-eq-div-mul (2 * a + d) d 2)
    ∙ ap (λ (x : ℕ). x / 2) (add-div_right (2 * a) D ∙ ap (λ (x : ℕ). x / d + 1) (mul_comm 2 a) ∙ ap (λ (x : ℕ). a * 2 / x + 1) (sym (mul-one d)))

pub nearest_is : (p : Float) → T (moderate p) → nearest_whole p ≡ signed (sgn p) ((halves p + 1) / 2)
unfolding nearest_whole
nearest_is nan h = absurd h
nearest_is (inf s) h = absurd h
nearest_is (fin s m e) h = rw (half_up (m * up e) (down e) (down_pos e))

pub signed_mag : (s : Bool) (n : ℕ) → mag (signed s n) ≤ n
signed_mag true zero = omega arith
signed_mag true (suc n) = omega arith
signed_mag false n = omega arith

-- from twice the number, cut, to the number's nearest
pub from_above : (s : Bool) (q : ℕ) → le_z (pos 0) (signed s q) ≡ true → quot_z (signed s q +ℤ pos 1) (pos 2) ≡ signed s ((q + 1) / 2)
from_above true zero h = refl
from_above true (suc q) h = absurd (false≢true h)
from_above false q h = refl

pub from_below : (s : Bool) (q : ℕ) → le_z (pos 0) (signed s q) ≡ false → quot_z (signed s q -ℤ pos 1) (pos 2) ≡ signed s ((q + 1) / 2)
from_below true zero h = absurd (true≢false h)
from_below true (suc q) h = ap (λ (x : ℕ). neg_ℤ (pos (x / 2))) (let z : suc (suc (q + 0)) ≡ suc q + 1 = omega arith in z)
from_below false q h = absurd (true≢false (sym (le-leb 0 q (omega arith)) ∙ h))

pub nearest_mag : (p : Float) → T (moderate p) → mag (nearest_whole p) ≤ 1200
nearest_mag p h = rw (nearest_is p h) (omega (arith, signed_mag (sgn p) ((halves p + 1) / 2), halves_le p h))
