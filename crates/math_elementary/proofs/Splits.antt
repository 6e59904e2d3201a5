-- From the digits at full width to the significand and the exponent of a split.
use mathlib.Core.Path.{◌≡◌, refl, sym, ap, ◌∙◌}
use mathlib.Core.Bool.{Bool, true, false, not}
use Prim.Native.Nat.{ℕ, zero, suc, ◌+◌, ◌-◌, ◌*◌, ◌/◌, ◌%◌, ◌^◌, ◌<◌, ◌≤◌}
use native.Mathlib.Omega.{arith}
use native.Mathlib.Nat.{le_trans, le_of_eq, lt_of_lt_of_le, lt_of_le_of_lt, mul-one, mul_assoc, mul_right_comm, mul-le-mul_right, mul-le-mul_left, mul-lt-mul_of_pos_right, pow-suc, eq_of_mul-eq-mul_right}
use native.Mathlib.Numerals.{sub-one}
use borrow.Author.Tests.{le-leb, lt-leb, ne_eqb, ltb-true, ltb-false}
use lib.Dec.{T, leb, ltb, eqb, ltb→lt, lt→ltb, le→leb, lit<, lit≤}
use lib.Pow.{pow_pos, pow-add, pow_mono}
use lib.IntN.{ℤ, pos, negsuc, sub_ℕ, ◌+ℤ◌, ◌-ℤ◌}
use lib.Ieee.{Float, nan, inf, fin, binary64, up, down, minus, size, odd, fits, of_fields, of_bits, nan_bits}
use lib.Ieee.Bits.{of_bits-fits}
use lib.Ieee.Digits.{size-le, minus_val}
use lib.Ieee.Exact.{HasValue, odd_sign}
use lib.Ieee.Fits.{and_l, and_r, and_i, down_pos}
use lib.Ieee.Positive.{positive}
use Rattle.math_elementary.specs.Units.{Widened}
use Rattle.math_elementary.specs.Ln.{places, significand_of, exponent_of}
use Rattle.math_elementary.proofs.Fitting.{fits_digits, fits_low, pow_inj}
use Rattle.math_elementary.proofs.Ints.{subℕ_le, subℕ_lt}
use Rattle.math_elementary.proofs.Digits53.{lift, units_is, units_size, size_pos}
use Rattle.math_elementary.proofs.Unique.{value_unique}

-- ---- differences of naturals, shifted
pub sub_shift : (a b c : ℕ) → sub_ℕ (a + c) (b + c) ≡ sub_ℕ a b
sub_shift a b c = go (ltb a b) refl
  where
    go : (t : Bool) → ltb a b ≡ t → sub_ℕ (a + c) (b + c) ≡ sub_ℕ a b
    go true h = let l : a < b = ltb-true a b h in subℕ_lt (a + c) (b + c) (omega arith) ∙ ap negsuc (let q : b + c - suc (a + c) ≡ b - suc a = omega arith in q) ∙ sym (subℕ_lt a b l)
    go false h = let l : b ≤ a = ltb-false a b h in subℕ_le (a + c) (b + c) (omega arith) ∙ ap pos (let q : a + c - (b + c) ≡ a - b = omega arith in q) ∙ sym (subℕ_le a b l)

exp_sum : (e : ℤ) (p : ℕ) → down e ≤ 2 ^ 1074 → e +ℤ pos p ≡ sub_ℕ (lift e + p) 1074
exp_sum (pos k) p h = sym (subℕ_le (k + 1074 + p) 1074 (omega arith) ∙ ap pos (let q : k + 1074 + p - 1074 ≡ k + p = omega arith in q))
exp_sum (negsuc k) p h =
    let g : suc k ≤ 1074 = pow_inj (suc k) 1074 h in
    sym (ap (λ (x : ℕ). sub_ℕ x 1074) (let q : 1074 - suc k + p ≡ p + (1074 - suc k) = omega arith in q)
    ∙ ap (λ (x : ℕ). sub_ℕ (p + (1074 - suc k)) x) (let q : 1074 ≡ suc k + (1074 - suc k) = omega arith in q)
    ∙ sub_shift p (suc k) (1074 - suc k))

-- ---- the pattern with the field y + 1 and the digits of full
fields_are : (full y : ℕ) → 4503599627370496 ≤ full → full < 9007199254740992 → y < 2046 → of_bits binary64 (full + y * 4503599627370496) ≡ odd 53 false full y 1074
unfolding of_bits of_fields
fields_are full y lo hi h =
    let b = full + y * 4503599627370496 in
    rw (lt-leb 9223372036854775808 b (omega arith))
    (ap (λ (n : ℕ). of_fields binary64 false n (b % 4503599627370496)) (let q : b % 9223372036854775808 / 4503599627370496 ≡ suc y = omega arith in q)
    ∙ rw (ne_eqb (suc y) 2047 (λ e. omega arith))
    (ap (λ (n : ℕ). odd 53 false n y 1074) (let q : 4503599627370496 + b % 4503599627370496 ≡ full = omega arith in q)))

pub pattern_no_nan : (full y : ℕ) → 4503599627370496 ≤ full → full < 9007199254740992 → y < 2046 → T (not (nan_bits binary64 (full + y * 4503599627370496)))
unfolding nan_bits
pattern_no_nan full y lo hi h = rw (ne_eqb ((full + y * 4503599627370496) % 9223372036854775808 / 4503599627370496) 2047 (λ e. omega arith)) tt

pattern_value : (full y : ℕ) → 4503599627370496 ≤ full → full < 9007199254740992 → y < 2046 → HasValue (of_bits binary64 (full + y * 4503599627370496)) false (full * 2 ^ y) (2 ^ 1074)
pattern_value full y lo hi h = rw (fields_are full y lo hi h) (odd_sign 53 false full y 1074)

-- ---- the significand n moved down by p places
pub down_place : (p : ℕ) → (down (minus 0 p) ≡ 2 ^ p) × (up (minus 0 p) ≡ 1)
down_place zero = (refl, refl)
down_place (suc p) = rw (lt-leb (suc p) 0 (omega arith), (let q : suc p - 1 ≡ p = omega arith in q)) (refl, refl)

pub small : (n p : ℕ) → n < 2 ^ 53 → p ≤ 53 → T (eqb (n % 2) 1) → 0 < n → T (fits binary64 (fin false n (minus 0 p)))
unfolding fits
small zero p l h o g = absurd (let q : ⊥ = omega arith in q)
small (suc n) p l h o g =
    let w = down_place p in
    let a : T (ltb (suc n) (2 ^ 53)) = lt→ltb (suc n) (2 ^ 53) l in
    let b : T (leb (down (minus 0 p)) (2 ^ 1074)) = le→leb (down (minus 0 p)) (2 ^ 1074) (le_trans (le_of_eq w.0) (pow_mono {i = p} {j = 1074} (omega arith))) in
    let c : T (ltb (suc n * up (minus 0 p)) (2 ^ 1024 * down (minus 0 p))) =
    lt→ltb (suc n * up (minus 0 p)) (2 ^ 1024 * down (minus 0 p))
    (lt_of_le_of_lt (le_of_eq (ap (λ (x : ℕ). suc n * x) w.1 ∙ mul-one (suc n)))
    (lt_of_lt_of_le (lt_of_lt_of_le l (pow_mono {i = 53} {j = 1024} (lit≤ tt)))
    (le_trans (le_of_eq (sym (mul-one (2 ^ 1024)))) (mul-le-mul_left (2 ^ 1024) (down_pos (minus 0 p)))))) in
    search and_i

place_value : (n p : ℕ) → HasValue (fin false n (minus 0 p)) false n (2 ^ p)
place_value n p = (refl, minus_val n 0 p ∙ ap (λ (x : ℕ). x * down (minus 0 p)) (mul-one n))

fits_odd : (s : Bool) (n : ℕ) (e : ℤ) → 0 < n → T (fits binary64 (fin s n e)) → T (eqb (n % 2) 1)
unfolding fits
fits_odd s zero e p f = absurd (let q : ⊥ = omega arith in q)
fits_odd s (suc n) e p f = search (and_l, and_r)

-- ---- a split, for the digits full of the number n * 2 ^ e
module _ (n : ℕ) (e : ℤ) (pn : 0 < n) (f : T (fits binary64 (fin false n e))) (full d : ℕ) (w : Widened (fin false n e) full d) where
  abbrev fit : n < 2 ^ 53
  fit = fits_digits false n e f

  abbrev lo : down e ≤ 2 ^ 1074
  lo = fits_low false n e f

  d_is : d ≡ size n + lift e
  d_is = w.count ∙ units_size n e pn fit lo

  -- full / 2 ^ 53 is n / 2 ^ size n
  level : full * 2 ^ size n ≡ n * 2 ^ 53
  level =
      eq_of_mul-eq-mul_right (2 ^ lift e) (pow_pos (lift e)) (full * 2 ^ size n) (n * 2 ^ 53)
      (mul_assoc full (2 ^ size n) (2 ^ lift e)
      ∙ ap (λ (x : ℕ). full * x) (sym (pow-add 2 (size n) (lift e)) ∙ ap (λ (x : ℕ). 2 ^ x) (sym d_is))
      ∙ w.same
      ∙ ap (λ (x : ℕ). x * 2 ^ 53) (units_is n e lo)
      ∙ mul_right_comm n (2 ^ lift e) (2 ^ 53))

  low_places : full < 6755399441055744 → places n ≡ size n - 1
  unfolding places
  low_places h = rw (lt-leb (3 * 2 ^ size n) (4 * n) (lt_of_mul (omega (arith, scaled_low h, level))))
    where
      scaled_low : full < 6755399441055744 → full * 2 ^ size n < 6755399441055744 * 2 ^ size n
      scaled_low g = mul-lt-mul_of_pos_right g (pow_pos (size n))

      lt_of_mul : n * 9007199254740992 < 6755399441055744 * 2 ^ size n → 4 * n < 3 * 2 ^ size n
      lt_of_mul g = omega arith

  high_places : 6755399441055744 ≤ full → places n ≡ size n
  unfolding places
  high_places h = rw (le-leb (3 * 2 ^ size n) (4 * n) (le_of_mul (omega (arith, mul-le-mul_right (2 ^ size n) h, level))))
    where
      le_of_mul : 6755399441055744 * 2 ^ size n ≤ n * 9007199254740992 → 3 * 2 ^ size n ≤ 4 * n
      le_of_mul g = omega arith

  half_level : full * 2 ^ (size n - 1) ≡ n * 2 ^ 52
  half_level = go (size n) (size_pos n pn) level
    where
      go : (z : ℕ) → 0 < z → full * 2 ^ z ≡ n * 2 ^ 53 → full * 2 ^ (z - 1) ≡ n * 2 ^ 52
      go zero p h = absurd (let q : ⊥ = omega arith in q)
      go (suc z) p h = rw sub-one (halve (full * 2 ^ z) (mul_assoc full (2 ^ z) 2 ∙ ap (λ (x : ℕ). full * x) (sym (pow-suc 2 z)) ∙ h))
        where
          halve : (a : ℕ) → a * 2 ≡ n * 2 ^ 53 → a ≡ n * 2 ^ 52
          halve a g = omega arith

  significand : (y p : ℕ) → y < 2046 → p ≤ 53 → full * 2 ^ y * 2 ^ p ≡ n * 2 ^ 1074 → places n ≡ p → of_bits binary64 (full + y * 4503599627370496) ≡ significand_of (fin false n e)
  unfolding significand_of
  significand y p h l eq pl =
      rw pl
      (value_unique binary64 (of_bits binary64 (full + y * 4503599627370496)) (fin false n (minus 0 p)) false (full * 2 ^ y) (2 ^ 1074) n (2 ^ p) (pow_pos 1074) (pow_pos p)
      (of_bits-fits binary64 (full + y * 4503599627370496)) (small n p fit l (fits_odd false n e pn f) pn)
      (pattern_value full y w.from w.below h) (place_value n p) eq)

  pub low_significand : full < 6755399441055744 → of_bits binary64 (full + 4602678819172646912) ≡ significand_of (fin false n e)
  low_significand h =
      significand 1022 (size n - 1) (lit< tt) (omega (arith, size-le n 53 fit))
      (mul_right_comm full (2 ^ 1022) (2 ^ (size n - 1)) ∙ ap (λ (x : ℕ). x * 2 ^ 1022) half_level ∙ mul_assoc n (2 ^ 52) (2 ^ 1022))
      (low_places h)

  pub high_significand : 6755399441055744 ≤ full → of_bits binary64 (full + 4598175219545276416) ≡ significand_of (fin false n e)
  high_significand h =
      significand 1021 (size n) (lit< tt) (size-le n 53 fit)
      (mul_right_comm full (2 ^ 1021) (2 ^ size n) ∙ ap (λ (x : ℕ). x * 2 ^ 1021) level ∙ mul_assoc n (2 ^ 53) (2 ^ 1021))
      (high_places h)

  pub low_exponent : full < 6755399441055744 → pos d -ℤ pos 1075 ≡ exponent_of (fin false n e)
  unfolding exponent_of
  low_exponent h =
      rw (low_places h, exp_sum e (size n - 1) lo, d_is)
      (ap (λ (x : ℕ). sub_ℕ x 1075) (let q : size n + lift e ≡ lift e + (size n - 1) + 1 = omega (arith, size_pos n pn) in q) ∙ sub_shift (lift e + (size n - 1)) 1074 1)

  pub high_exponent : 6755399441055744 ≤ full → pos d -ℤ pos 1074 ≡ exponent_of (fin false n e)
  unfolding exponent_of
  high_exponent h = rw (high_places h, exp_sum e (size n) lo, d_is) (ap (λ (x : ℕ). sub_ℕ x 1074) (let q : size n + lift e ≡ lift e + size n = omega arith in q))

-- ---- the same of a float above zero
module _ (x : Float) (full d : ℕ) where
  pub low_split : T (fits binary64 x) → T (positive x) → Widened x full d → full < 6755399441055744 → (of_bits binary64 (full + 4602678819172646912) ≡ significand_of x) × (pos d -ℤ pos 1075 ≡ exponent_of x)
  low_split = go x
    where
      go : (x : Float) → T (fits binary64 x) → T (positive x) → Widened x full d → full < 6755399441055744 → (of_bits binary64 (full + 4602678819172646912) ≡ significand_of x) × (pos d -ℤ pos 1075 ≡ exponent_of x)
      go nan f p w h = absurd p
      go (inf s) f p w h = absurd p
      go (fin true n e) f p w h = absurd p
      go (fin false n e) f p w h = (low_significand n e (ltb→lt 0 n p) f full d w h, low_exponent n e (ltb→lt 0 n p) f full d w h)

  pub high_split : T (fits binary64 x) → T (positive x) → Widened x full d → 6755399441055744 ≤ full → (of_bits binary64 (full + 4598175219545276416) ≡ significand_of x) × (pos d -ℤ pos 1074 ≡ exponent_of x)
  high_split = go x
    where
      go : (x : Float) → T (fits binary64 x) → T (positive x) → Widened x full d → 6755399441055744 ≤ full → (of_bits binary64 (full + 4598175219545276416) ≡ significand_of x) × (pos d -ℤ pos 1074 ≡ exponent_of x)
      go nan f p w h = absurd p
      go (inf s) f p w h = absurd p
      go (fin true n e) f p w h = absurd p
      go (fin false n e) f p w h = (high_significand n e (ltb→lt 0 n p) f full d w h, high_exponent n e (ltb→lt 0 n p) f full d w h)
