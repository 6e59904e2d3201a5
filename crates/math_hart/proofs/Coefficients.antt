-- The coefficients of specs/ are the code's literals: antt rounds each printed fraction and compares the bits. Assumes nothing.
use mathlib.Core.Path.{◌≡◌, refl}
use mathlib.Core.List.{List, [], ◌∷◌}
use Prim.Native.Nat.{ℕ}
use lib.ListN.{get_or}
use lib.Ieee.{Float, binary64, of_bits}
use Rattle.ieee.specs.Decimal.{decimal}
use Rattle.math_hart.specs.Polynomials.{horner, num_first, num_rest, den_first, den_rest}

-- the n-th of a list of bit patterns
abbrev pub literal : List ℕ → ℕ → Float
literal bits n = of_bits binary64 (get_or bits n 0)

abbrev pub num_bits : List ℕ
num_bits = 0x3fa2_0ded_0b57_fbde ∷ 0x3fe6_6989_be8e_a71f ∷ 0x4019_7eef_f2a8_6f23 ∷ 0x4040_f4d8_cbb0_2431 ∷ 0x405c_0513_1ca5_8d3c ∷ 0x406b_a6d5_c7a2_8cf2 ∷ 0x406b_869e_a974_c7e5 ∷ []

abbrev pub num_literals : List Float
num_literals = literal num_bits 1 ∷ literal num_bits 2 ∷ literal num_bits 3 ∷ literal num_bits 4 ∷ literal num_bits 5 ∷ literal num_bits 6 ∷ []

pub num_is : (step : Float → Float → Float → Float) (z : Float) → horner step z (literal num_bits 0) num_literals ≡ horner step z num_first num_rest
unfolding of_bits decimal
num_is step z = refl

abbrev pub den_bits : List ℕ
den_bits = 0x3fb6_a09e_667f_3bca ∷ 0x3ffc_1736_7388_7d11 ∷ 0x4030_106d_f11b_d49d ∷ 0x4055_b1f7_8433_a59a ∷ 0x4072_8907_29ba_7820 ∷ 0x4083_eaab_47fa_1777 ∷ 0x4088_ce9c_b298_974a ∷ 0x407b_869e_a974_c7e5 ∷ []

abbrev pub den_literals : List Float
den_literals = literal den_bits 1 ∷ literal den_bits 2 ∷ literal den_bits 3 ∷ literal den_bits 4 ∷ literal den_bits 5 ∷ literal den_bits 6 ∷ literal den_bits 7 ∷ []

pub den_is : (step : Float → Float → Float → Float) (z : Float) → horner step z (literal den_bits 0) den_literals ≡ horner step z den_first den_rest
unfolding of_bits decimal
den_is step z = refl
