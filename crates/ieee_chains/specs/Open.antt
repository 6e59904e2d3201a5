-- A positive f64 taken apart, between the steps of a chain of fused sums. For contracts of parts below the calls only.
use Rattle.std.specs.Prelude.{ℕ, ◌/◌, ◌^◌, ◌≤◌, false, Float}
use Rattle.std.specs.Float.{binary64}
use Rattle.std.specs.Float.Ieee.{units, to_bits}

-- the f64 q * 2 ^ k, in units of 2 ^ -1074
abbrev pub value_of : ℕ → ℕ → Float
value_of q k = units binary64 false q k

-- the field of x that tells its exponent, with the sign's digit before it: of a positive number that is no subnormal it is 1 to 2046
abbrev pub field : Float → ℕ
field x = to_bits binary64 x / 2 ^ 52

-- a significand of 53 digits, or the 2 ^ 53 to which one is rounded up
abbrev pub Digits : ℕ → Type 0
Digits q = (2 ^ 52 ≤ q) × (q ≤ 2 ^ 53)
