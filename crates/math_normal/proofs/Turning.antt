-- Hart's polynomials in fixed point: the sums stay below 2 ^ 62 (`begins`, `goes_on`, `room`), and stand for the polynomials (`numerator_is`, `denominator_is`); the series of exp beside them (`thirteen`); an argument in fixed point is below the threshold (`near_limit`, `near_threshold`); what lies above it from all of these (`assembled`). Assumes nothing.
use mathlib.Core.Path.{◌≡◌, refl, ap, ◌∙◌, subst}
use mathlib.Core.Bool.{true, false, true≢false}
use mathlib.Core.List.{List}
use lib.ListN.{take}
use Prim.Native.Nat.{ℕ, zero, suc, ◌+◌, ◌*◌, ◌^◌, ◌≤◌, ◌<◌}
use native.Mathlib.Nat.{le_trans, le_of_eq, le_of_lt, mul-le-mul_right, le_of_mul-le-mul_right}
use native.Mathlib.Omega.{arith}
use lib.Dec.{lit≤}
use lib.IntN.{ℤ, pos}
use lib.Ieee.{Float, nan, inf, fin, binary64, up, down, lt, neg, fits, of_int, of_bits}
use borrow.Author.Tests.{le-ltb, lt-ltb}
use lib.Pow.{pow_pos}
use lib.Ieee.Fits.{down_pos}
use Rattle.ieee.specs.Rounded.{◌⊗◌, ◌⊘◌}
use Rattle.ieee.specs.Decimal.{decimal}
use Rattle.ieee.specs.Numbers.{half, one, two}
use Rattle.ieee.specs.Fused.{fused_of}
use Rattle.ieee_chains.specs.Fixed.{Held, Stepped}
use Rattle.math_exponential.specs.Exp.{k_of, reduced_of, turn_of, series_of, within_limits, exp_of}
use Rattle.math_exponential.proofs.Limits.{from_parts}
use Rattle.math_hart.specs.Polynomials.{horner, num_first, num_rest, num_at, den_first, den_rest, den_at}
use Rattle.math_normal.specs.NormCdf.{limit, threshold, upper_of}
use Rattle.math_normal.specs.Turns.{num_fixed, den_fixed, Room, TurnsBegun, Turned, Ended}

-- ---- the coefficients in fixed point: antt compares each with the printed one

num0 : Held (num_at 0) (num_fixed 0) 59
unfolding decimal fits
num0 = record { fitted = tt; value = (refl, refl) }

num1 : Held (num_at 1) (num_fixed 1) 57
unfolding decimal fits
num1 = record { fitted = tt; value = (refl, refl) }

num2 : Held (num_at 2) (num_fixed 2) 55
unfolding decimal fits
num2 = record { fitted = tt; value = (refl, refl) }

num3 : Held (num_at 3) (num_fixed 3) 53
unfolding decimal fits
num3 = record { fitted = tt; value = (refl, refl) }

num4 : Held (num_at 4) (num_fixed 4) 51
unfolding decimal fits
num4 = record { fitted = tt; value = (refl, refl) }

num5 : Held (num_at 5) (num_fixed 5) 49
unfolding decimal fits
num5 = record { fitted = tt; value = (refl, refl) }

pub num6 : Held (num_at 6) (num_fixed 6) 47
unfolding decimal fits
num6 = record { fitted = tt; value = (refl, refl) }

den0 : Held (den_at 0) (den_fixed 0) 59
unfolding decimal fits
den0 = record { fitted = tt; value = (refl, refl) }

den1 : Held (den_at 1) (den_fixed 1) 57
unfolding decimal fits
den1 = record { fitted = tt; value = (refl, refl) }

den2 : Held (den_at 2) (den_fixed 2) 55
unfolding decimal fits
den2 = record { fitted = tt; value = (refl, refl) }

den3 : Held (den_at 3) (den_fixed 3) 53
unfolding decimal fits
den3 = record { fitted = tt; value = (refl, refl) }

den4 : Held (den_at 4) (den_fixed 4) 51
unfolding decimal fits
den4 = record { fitted = tt; value = (refl, refl) }

den5 : Held (den_at 5) (den_fixed 5) 49
unfolding decimal fits
den5 = record { fitted = tt; value = (refl, refl) }

den6 : Held (den_at 6) (den_fixed 6) 47
unfolding decimal fits
den6 = record { fitted = tt; value = (refl, refl) }

pub den7 : Held (den_at 7) (den_fixed 7) 45
unfolding decimal fits
den7 = record { fitted = tt; value = (refl, refl) }

-- ---- the values, before the last step

abbrev num_five : List Float
num_five = take 5 num_rest

abbrev den_six : List Float
den_six = take 6 den_rest

module _ (z : Float) (y : ℕ) (Z : Held z y 62) where
  numerator_is : (n1 n2 n3 n4 n5 : ℕ) → Stepped (num_fixed 0) y (num_fixed 1) n1 → Stepped n1 y (num_fixed 2) n2 → Stepped n2 y (num_fixed 3) n3
      → Stepped n3 y (num_fixed 4) n4 → Stepped n4 y (num_fixed 5) n5 → Held (horner fused_of z num_first num_five) n5 49
  numerator_is n1 n2 n3 n4 n5 s1 s2 s3 s4 s5 =
      let a1 = s1.value 57 _ z _ (lit≤ tt) num0 Z num1 in
      let a2 = s2.value 55 _ z _ (lit≤ tt) a1 Z num2 in
      let a3 = s3.value 53 _ z _ (lit≤ tt) a2 Z num3 in
      let a4 = s4.value 51 _ z _ (lit≤ tt) a3 Z num4 in
      s5.value 49 _ z _ (lit≤ tt) a4 Z num5

  denominator_is : (d1 d2 d3 d4 d5 d6 : ℕ) → Stepped (den_fixed 0) y (den_fixed 1) d1 → Stepped d1 y (den_fixed 2) d2 → Stepped d2 y (den_fixed 3) d3
      → Stepped d3 y (den_fixed 4) d4 → Stepped d4 y (den_fixed 5) d5 → Stepped d5 y (den_fixed 6) d6 → Held (horner fused_of z den_first den_six) d6 47
  denominator_is d1 d2 d3 d4 d5 d6 s1 s2 s3 s4 s5 s6 =
      let b1 = s1.value 57 _ z _ (lit≤ tt) den0 Z den1 in
      let b2 = s2.value 55 _ z _ (lit≤ tt) b1 Z den2 in
      let b3 = s3.value 53 _ z _ (lit≤ tt) b2 Z den3 in
      let b4 = s4.value 51 _ z _ (lit≤ tt) b3 Z den4 in
      let b5 = s5.value 49 _ z _ (lit≤ tt) b4 Z den5 in
      s6.value 47 _ z _ (lit≤ tt) b5 Z den6

-- ---- the sizes after n turns

abbrev pub num_most : ℕ → ℕ
num_most zero = num_fixed 0
num_most (suc n) = num_most n + num_fixed (suc n) + 512

abbrev pub den_most : ℕ → ℕ
den_most zero = den_fixed 0 + den_fixed 1 + 512
den_most (suc n) = den_most n + den_fixed (suc (suc n)) + 512

abbrev pub Within : ℕ → ℕ → ℕ → Type 0
Within n num den = (num ≤ num_most n) × (den ≤ den_most n)

pub begins : {y : ℕ} {r : Float} {num den : ℕ} {p : Float} → TurnsBegun y r num den p → Within 0 num den
begins b = (le_of_eq b.numerator, b.denominator.most)

pub room : (n : ℕ) {num den : ℕ} → Within n num den → (c d : ℕ) → 2 ^ 53 ≤ c → num_most n + c < 2 ^ 62 → 2 ^ 53 ≤ d → den_most n + d < 2 ^ 62 → Room num den c d
room n {num} {den} s c d lc uc ld ud = (lc, under num (num_most n) c s.0 uc, ld, under den (den_most n) d s.1 ud)
  where
    under : (n A c : ℕ) → n ≤ A → A + c < 2 ^ 62 → n + c < 2 ^ 62
    under n A c l u = omega arith

over : (n A c r : ℕ) → n ≤ A → r ≤ n + c + 512 → r ≤ A + c + 512
over n A c r l u = omega arith

pub goes_on : (n : ℕ) {num den : ℕ} {p : Float} {y : ℕ} {r k m : Float} {num' den' : ℕ} {p' : Float} → Within n num den
    → Turned num den p y r (num_fixed (suc n)) (den_fixed (suc (suc n))) k m num' den' p' → Within (suc n) num' den'
goes_on n {num} {den} {p} {y} {r} {k} {m} {num'} {den'} w t = (over num (num_most n) (num_fixed (suc n)) num' w.0 t.numerator.most, over den (den_most n) (den_fixed (suc (suc n))) den' w.1 t.denominator.most)

-- ---- the series

abbrev two_terms : Float → Float → Float → Float → Float
two_terms r p n m = turn_of r (turn_of r p n) m

abbrev lit : ℕ → Float
lit n = of_bits binary64 n

thirteen : (r p0 p1 p2 p3 p4 p5 p6 : Float) → p0 ≡ turn_of r one (of_int binary64 (pos 13))
    → p1 ≡ two_terms r p0 (lit 0x4028_0000_0000_0000) (lit 0x4026_0000_0000_0000) → p2 ≡ two_terms r p1 (lit 0x4024_0000_0000_0000) (lit 0x4022_0000_0000_0000)
    → p3 ≡ two_terms r p2 (lit 0x4020_0000_0000_0000) (lit 0x401c_0000_0000_0000) → p4 ≡ two_terms r p3 (lit 0x4018_0000_0000_0000) (lit 0x4014_0000_0000_0000)
    → p5 ≡ two_terms r p4 (lit 0x4010_0000_0000_0000) (lit 0x4008_0000_0000_0000) → p6 ≡ two_terms r p5 two one
    → p6 ≡ series_of r 1 13 one
unfolding series_of of_bits of_int
thirteen r p0 p1 p2 p3 p4 p5 p6 e0 e1 e2 e3 e4 e5 e6 = rw (e6, e5, e4, e3, e2, e1, e0)

-- ---- the argument is below the threshold and not above 37

module _ (m : ℕ) (e : ℤ) (y : ℕ) (word : y < 2 ^ 64) (is : m * up e * 2 ^ 64 ≡ y * 4 * down e) where
  below_four : m * up e ≤ 4 * down e
  below_four = le_of_mul-le-mul_right (le_trans (le_of_eq is) (go y (down e) word)) (pow_pos 64)
    where
      go : (y D : ℕ) → y < 2 ^ 64 → y * 4 * D ≤ 4 * D * 2 ^ 64
      go y D h = le_trans (mul-le-mul_right D (mul-le-mul_right 4 (le_of_lt h))) (le_of_eq (swap D (2 ^ 64)))
        where
          swap : (D M : ℕ) → M * 4 * D ≡ 4 * D * M
          swap D M = omega arith

near_limit : (z : Float) (y : ℕ) → y < 2 ^ 64 → Held z y 62 → lt limit z ≡ false
unfolding decimal lt
near_limit nan y word Z = absurd Z.value
near_limit (inf t) y word Z = absurd Z.value
near_limit (fin true m e) y word Z = refl
near_limit (fin false m e) y word Z = le-ltb (37 * down e) (m * up e * 1) (go (m * up e) (down e) (below_four m e y word Z.value.1))
  where
    go : (a d : ℕ) → a ≤ 4 * d → a * 1 ≤ 37 * d
    go a d h = omega arith

near_threshold : (z : Float) (y : ℕ) → y < 2 ^ 64 → Held z y 62 → lt z threshold ≡ true
unfolding decimal lt
near_threshold nan y word Z = absurd Z.value
near_threshold (inf t) y word Z = absurd Z.value
near_threshold (fin true m e) y word Z = absurd (true≢false Z.value.0)
near_threshold (fin false m e) y word Z = lt-ltb (m * up e * 1125899906842624) (7961314590657215 * down e) (go (m * up e) (down e) (below_four m e y word Z.value.1) (down_pos e))
  where
    go : (a d : ℕ) → a ≤ 4 * d → 0 < d → a * 1125899906842624 < 7961314590657215 * d
    go a d h p = omega arith

-- ---- one argument's work put together

pub assembled : (z a r v : Float) (y : ℕ) (k : ℤ) {n0 d1 n1 d2 n2 d3 n3 d4 n4 d5 n5 d6 : ℕ} {p0 p1 p2 p3 p4 p5 : Float} → y < 2 ^ 64 → Held z y 62 → a ≡ neg z ⊗ z ⊗ half → within_limits a ≡ true
    → r ≡ reduced_of a (k_of a) → k ≡ k_of a → TurnsBegun y r n0 d1 p0
    → Turned n0 d1 p0 y r (num_fixed 1) (den_fixed 2) (lit 0x4028_0000_0000_0000) (lit 0x4026_0000_0000_0000) n1 d2 p1
    → Turned n1 d2 p1 y r (num_fixed 2) (den_fixed 3) (lit 0x4024_0000_0000_0000) (lit 0x4022_0000_0000_0000) n2 d3 p2
    → Turned n2 d3 p2 y r (num_fixed 3) (den_fixed 4) (lit 0x4020_0000_0000_0000) (lit 0x401c_0000_0000_0000) n3 d4 p3
    → Turned n3 d4 p3 y r (num_fixed 4) (den_fixed 5) (lit 0x4018_0000_0000_0000) (lit 0x4014_0000_0000_0000) n4 d5 p4
    → Turned n4 d5 p4 y r (num_fixed 5) (den_fixed 6) (lit 0x4010_0000_0000_0000) (lit 0x4008_0000_0000_0000) n5 d6 p5
    → Ended n5 d6 p5 y r k v → v ≡ upper_of fused_of z
unfolding upper_of
assembled z a r v y k {n0} {d1} {n1} {d2} {n2} {d3} {n3} {d4} {n4} {d5} {n5} {d6} {p0} {p1} {p2} {p3} {p4} {p5} word Z a-is w r_is k_is B t1 t2 t3 t4 t5 E =
    let N = numerator_is z y Z n1 n2 n3 n4 n5 (subst (λ (n : ℕ). Stepped n y (num_fixed 1) n1) B.numerator t1.numerator) t2.numerator t3.numerator t4.numerator t5.numerator in
    let D = denominator_is z y Z d1 d2 d3 d4 d5 d6 B.denominator t1.denominator t2.denominator t3.denominator t4.denominator t5.denominator in
    let p = thirteen r p0 p1 p2 p3 p4 p5 (two_terms r p5 two one) B.series t1.series t2.series t3.series t4.series t5.series refl in
    let e = from_parts a w r (two_terms r p5 two one) _ k r_is k_is p refl in
    E z _ _ Z N D
    ∙ rw (near_limit z y word Z, near_threshold z y word Z) (ap (λ (x : Float). x ⊗ horner fused_of z num_first num_rest ⊘ horner fused_of z den_first den_rest) (e ∙ ap exp_of a-is))
