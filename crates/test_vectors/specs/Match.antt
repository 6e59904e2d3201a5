-- When a result is what a vector's bits expect: a NaN for the bits of any NaN, and otherwise the same bits, so that the two zeros are told apart.
use Rattle.std.specs.Prelude.{ℕ, Bool, false, cond, eqb, ltb, Float}
use Rattle.std.specs.Float.{binary64}
use Rattle.std.specs.Float.Ieee.{is_nan, of_bits, to_bits}
use Rattle.test_vectors.specs.Named.{result_of}

abbrev pub matches_of : Float → ℕ → Bool
matches_of x n = cond (is_nan x) (is_nan (of_bits binary64 n)) (eqb (to_bits binary64 x) n)

-- Whether the function that the number n names gives what is expected, of the arguments with the bits a, b and c. A number outside 1 to 14 names none.
abbrev pub agrees_of : ℕ → ℕ → ℕ → ℕ → ℕ → Bool
agrees_of n a b c expected =
    cond (ltb n 1) false (cond (ltb 14 n) false (matches_of (result_of n (of_bits binary64 a) (of_bits binary64 b) (of_bits binary64 c)) expected))
