-- Hart's polynomials in fixed point, beside the series of exp. For private functions' contracts only.
use Rattle.std.specs.Prelude.{◌≡◌, ℕ, ◌+◌, ◌^◌, ◌≤◌, ◌<◌, [], ◌∷◌, get_or, ℤ, pos, Float}
use Rattle.std.specs.Float.{binary64}
use Rattle.std.specs.Float.Ieee.{of_int}
use Rattle.ieee.specs.Rounded.{◌⊗◌, ◌⊘◌}
use Rattle.ieee.specs.Numbers.{one, two}
use Rattle.ieee.specs.Fused.{fused_of}
use Rattle.ieee_chains.specs.Fixed.{Held, Stepped}
use Rattle.math_exponential.specs.Exp.{turn_of, scale_of}
use Rattle.math_hart.specs.Polynomials.{num_at, den_at}

-- Hart's coefficients in fixed point, the n-th times 2 ^ (59 - 2 n): the constants of the code. The proofs hold each against the printed one.
abbrev pub num_fixed : ℕ → ℕ
num_fixed n = get_or (0x48_37b4_2d5f_ef78 ∷ 0x166_989b_e8ea_71f0 ∷ 0x32f_ddfe_550d_e460 ∷ 0x43d_3632_ec09_0c40 ∷ 0x380_a263_94b1_a780 ∷ 0x1ba_6d5c_7a28_cf20 ∷ 0x6e_1a7a_a5d3_1f94 ∷ []) n 0

abbrev pub den_fixed : ℕ → ℕ
den_fixed n = get_or (0xb5_04f3_33f9_de50 ∷ 0x382_e6ce_710f_a220 ∷ 0x808_36f8_8dea_4e80 ∷ 0xad8_fbc2_19d2_cd00 ∷ 0x944_8394_dd3c_1000 ∷ 0x4fa_aad1_fe85_ddc0 ∷ 0x18c_e9cb_2989_74a0 ∷ 0x37_0d3d_52e9_8fca ∷ []) n 0

-- a step of each polynomial stays below 2 ^ 62
abbrev pub Room : ℕ → ℕ → ℕ → ℕ → Type 0
Room num den c d = (2 ^ 53 ≤ c) × (num + c < 2 ^ 62) × (2 ^ 53 ≤ d) × (den + d < 2 ^ 62)

-- before the first turn
pub record TurnsBegun (y : ℕ) (r : Float) (num den : ℕ) (p : Float) : Type 0 where
  pub numerator : num ≡ num_fixed 0
  pub denominator : Stepped (den_fixed 0) y (den_fixed 1) den
  pub series : p ≡ turn_of r one (of_int binary64 (pos 13))

-- a turn: one step of each polynomial, two terms of exp
pub record Turned (num den : ℕ) (p : Float) (y : ℕ) (r : Float) (c d : ℕ) (n m : Float) (num' den' : ℕ) (p' : Float) : Type 0 where
  pub numerator : Stepped num y c num'
  pub denominator : Stepped den y d den'
  pub series : p' ≡ turn_of r (turn_of r p n) m

-- the last turn: with 49 and 47 places before it, v is e × num / den, as Hart has it
abbrev pub Ended : ℕ → ℕ → Float → ℕ → Float → ℤ → Float → Type 0
Ended num den p y r k v =
    (z a b : Float) → Held z y 62 → Held a num 49 → Held b den 47
    → v ≡ scale_of (turn_of r (turn_of r p two) one) k ⊗ fused_of a z (num_at 6) ⊘ fused_of b z (den_at 7)
