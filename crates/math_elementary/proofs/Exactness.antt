-- The split of a float above zero is exact, and its significand lies from 0.75 up and below 1.5.
use mathlib.Core.Path.{◌≡◌, refl, sym, ap, ◌∙◌}
use mathlib.Core.Bool.{Bool, true, false, cond, ◌&&◌, ◌||◌, true≢false, false≢true}
use Prim.Native.Nat.{ℕ, zero, suc, ◌+◌, ◌-◌, ◌*◌, ◌^◌, ◌<◌, ◌≤◌}
use native.Mathlib.Omega.{arith}
use native.Mathlib.Nat.{mul-one, one-mul, mul_assoc, pow-suc, zero-mul}
use native.Mathlib.Numerals.{sub-one}
use borrow.Author.Tests.{leb-true, leb-false, ltb-true, ltb-false}
use lib.Dec.{T, leb, ltb, eqb, ltb→lt, lt→ltb}
use lib.Pow.{pow-add}
use lib.IntN.{ℤ, pos, negsuc, sub_ℕ, ◌+ℤ◌}
use lib.Ieee.{Float, nan, inf, fin, binary64, up, down, minus, size, lt, le, eq, is_nan, of_bits}
use lib.Ieee.Digits.{size-lt}
use lib.Ieee.Positive.{positive}
use Rattle.ieee.specs.Decimal.{decimal}
use Rattle.math_elementary.specs.Ln.{places, significand_of, exponent_of, ExactSplit}
use Rattle.math_elementary.proofs.AtMost.{le_or}
use Rattle.math_elementary.proofs.Ints.{subℕ_le, subℕ_lt}
use Rattle.math_elementary.proofs.Digits53.{size_from, size_pos}
use Rattle.math_elementary.proofs.Splits.{down_place}

-- ---- 2 ^ (e + p) is 2 ^ e * 2 ^ p
power_sum : (e : ℤ) (p : ℕ) → up (e +ℤ pos p) * down e ≡ up e * (2 ^ p * down (e +ℤ pos p))
power_sum (pos k) p = simp (pow-add, mul_assoc)
power_sum (negsuc k) p = go (ltb p (suc k)) refl
  where
    go : (t : Bool) → ltb p (suc k) ≡ t → up (sub_ℕ p (suc k)) * 2 ^ suc k ≡ 1 * (2 ^ p * down (sub_ℕ p (suc k)))
    go true h =
        let l : p < suc k = ltb-true p (suc k) h in
        rw (subℕ_lt p (suc k) l) (one-mul (2 ^ suc k) ∙ ap (λ (x : ℕ). 2 ^ x) (let q : suc k ≡ p + suc (suc k - suc p) = omega arith in q) ∙ pow-add 2 p (suc (suc k - suc p)) ∙ sym (one-mul (2 ^ p * 2 ^ suc (suc k - suc p))))
    go false h =
        let l : suc k ≤ p = ltb-false p (suc k) h in
        rw (subℕ_le p (suc k) l) (sym (pow-add 2 (p - suc k) (suc k)) ∙ ap (λ (x : ℕ). 2 ^ x) (let q : p - suc k + suc k ≡ p = omega arith in q) ∙ sym (mul-one (2 ^ p)) ∙ sym (one-mul (2 ^ p * 1)))

-- ---- where the places leave the significand
bounds : (n : ℕ) → 0 < n → (3 * 2 ^ places n ≤ 4 * n) × (2 * n < 3 * 2 ^ places n)
unfolding places
bounds n pn = go (leb (3 * 2 ^ size n) (4 * n)) refl
  where
    lower : (z : ℕ) → 0 < z → 2 ^ z ≡ 2 ^ (z - 1) * 2
    lower zero h = absurd (let q : ⊥ = omega arith in q)
    lower (suc z) h = rw sub-one (pow-suc 2 z)

    go : (t : Bool) → leb (3 * 2 ^ size n) (4 * n) ≡ t → (3 * 2 ^ cond t (size n) (size n - 1) ≤ 4 * n) × (2 * n < 3 * 2 ^ cond t (size n) (size n - 1))
    go true h = (leb-true (3 * 2 ^ size n) (4 * n) h, omega (arith, size-lt n))
    go false h = (omega (arith, size_from n pn), omega (arith, leb-false (3 * 2 ^ size n) (4 * n) h, lower (size n) (size_pos n pn)))

exact_fin : (n : ℕ) (e : ℤ) → 0 < n → ExactSplit (fin false n e) (significand_of (fin false n e)) (exponent_of (fin false n e))
unfolding significand_of exponent_of le lt decimal
exact_fin n e pn =
    let p = places n in
    let w = down_place p in
    let b = bounds n pn in
    record {
      from = le_or (3 * down (minus 0 p)) (n * up (minus 0 p) * 4) (rw (w.0, w.1) (omega (arith, b.0)));
      below = lt→ltb (n * up (minus 0 p) * 2) (3 * down (minus 0 p)) (rw (w.0, w.1) (omega (arith, b.1)));
      exact =
          rw (w.0, w.1)
          (ap (λ (x : ℕ). x * up (e +ℤ pos p) * down e) (mul-one n)
          ∙ mul_assoc n (up (e +ℤ pos p)) (down e)
          ∙ ap (λ (x : ℕ). n * x) (power_sum e p)
          ∙ sym (mul_assoc n (up e) (2 ^ p * down (e +ℤ pos p))));
    }

pub split_exact : (x : Float) → T (positive x) → ExactSplit x (significand_of x) (exponent_of x)
split_exact nan h = absurd h
split_exact (inf s) h = absurd h
split_exact (fin true n e) h = absurd h
split_exact (fin false n e) h = exact_fin n e (ltb→lt 0 n h)

-- ---- what is left after the tests of ln
pub above_zero : (x : Float) → is_nan x ≡ false → lt x (of_bits binary64 0) ≡ false → eq x (of_bits binary64 0) ≡ false → eq x (inf false) ≡ false → T (positive x)
unfolding is_nan lt eq of_bits
above_zero nan a b c d = absurd (true≢false a)
above_zero (inf true) a b c d = absurd (true≢false b)
above_zero (inf false) a b c d = absurd (true≢false d)
above_zero (fin true n e) a b c d =
    let l : n * up e * 1 + 0 * down e ≤ 0 = ltb-false 0 (n * up e * 1 + 0 * down e) b in
    let z : 0 * down e ≡ 0 = zero-mul (down e) in
    absurd (true≢false (sym (go (n * up e * 1) (0 * down e) (omega arith) z) ∙ c))
  where
    go : (a b : ℕ) → a ≡ 0 → b ≡ 0 → eqb a b && (false || eqb a 0) ≡ true
    go a b p q = rw (p, q)
above_zero (fin false zero e) a b c d = absurd (true≢false (sym (go (0 * up e * 1) (0 * down e) (ap (λ (x : ℕ). x * 1) (zero-mul (up e))) (zero-mul (down e))) ∙ c))
  where
    go : (a b : ℕ) → a ≡ 0 → b ≡ 0 → eqb a b && (true || eqb a 0) ≡ true
    go a b p q = rw (p, q)
above_zero (fin false (suc n) e) a b c d = lt→ltb 0 (suc n) (omega arith)

pub is_inf : (x : Float) → eq x (inf false) ≡ true → x ≡ inf false
unfolding eq
is_inf nan h = absurd (false≢true h)
is_inf (inf true) h = absurd (false≢true h)
is_inf (inf false) h = refl
is_inf (fin s n e) h = absurd (false≢true h)
