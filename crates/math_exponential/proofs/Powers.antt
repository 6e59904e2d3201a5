-- 2 ^ a as a bit pattern: the field a + 1023, and no digits.
use Rattle.std.proofs.Common.{◌≡◌, ℕ, zero, suc, ◌+◌, ◌-◌, ◌*◌, ◌/◌, ◌%◌, ◌<◌, false, not, T, ℤ, pos, negsuc, refl, ap, ◌∙◌, arith, ne_eqb, le-leb}
use native.Mathlib.Nat.{mul-mod_left}
use borrow.Author.Tests.{lt-leb}
use lib.Signed.{mag}
use lib.Ieee.{fin, binary64, minus, of_fields, of_bits, nan_bits}
use Rattle.math_elementary.proofs.Ints.{bias, bias_pos, bias_lt}

-- the exponent that the field y + 1 stands for
minus_bias : (a : ℤ) (y : ℕ) → mag a < 1022 → suc y ≡ bias a → minus (y + 52) 1074 ≡ a
minus_bias (pos n) y h e = rw (le-leb 1074 (y + 52) (omega arith)) (ap pos (let z : y + 52 - 1074 ≡ n = omega arith in z))
minus_bias (negsuc n) y h e = rw (lt-leb 1074 (y + 52) (omega arith)) (ap negsuc (let z : 1074 - suc (y + 52) ≡ n = omega arith in z))

fields_is : (y : ℕ) → suc y < 2047 → of_fields binary64 false (suc y) 0 ≡ fin false 1 (minus (y + 52) 1074)
unfolding of_fields
fields_is y h = rw (ne_eqb (suc y) 2047 (λ e. omega arith))

bits_is : (x : ℕ) → x < 2047 → of_bits binary64 (x * 4503599627370496) ≡ of_fields binary64 false x 0
unfolding of_bits
bits_is x h =
    rw (lt-leb 9223372036854775808 (x * 4503599627370496) (omega arith))
    (ap (λ (n : ℕ). of_fields binary64 false n (x * 4503599627370496 % 4503599627370496)) (let z : x * 4503599627370496 % 9223372036854775808 / 4503599627370496 ≡ x = omega arith in z)
    ∙ ap (λ (n : ℕ). of_fields binary64 false x n) (mul-mod_left x 4503599627370496))

pub two_bits : (a : ℤ) → mag a < 1022 → of_bits binary64 (bias a * 4503599627370496) ≡ fin false 1 a
two_bits a h = go (bias a) refl (bias_pos a h) (bias_lt a h)
  where
    go : (x : ℕ) → x ≡ bias a → 0 < x → x < 2047 → of_bits binary64 (x * 4503599627370496) ≡ fin false 1 a
    go zero e p l = absurd (let z : ⊥ = omega arith in z)
    go (suc y) e p l = bits_is (suc y) l ∙ fields_is y l ∙ ap (λ (z : ℤ). fin false 1 z) (minus_bias a y h e)

pub two_no_nan : (x : ℕ) → x < 2047 → T (not (nan_bits binary64 (x * 4503599627370496)))
unfolding nan_bits
two_no_nan x h = rw (mul-mod_left x 4503599627370496, ne_eqb (x * 4503599627370496 % 9223372036854775808 / 4503599627370496) 2047 (λ e. omega arith)) tt
