-- The two ends of specs/ are the code's literals: antt rounds the printed fraction and compares the bits. Assumes nothing.
use mathlib.Core.Path.{◌≡◌, refl}
use lib.Ieee.{binary64, of_bits}
use Rattle.ieee.specs.Decimal.{decimal}
use Rattle.math_bisection.specs.Solve.{lowest, highest}

pub lowest_is : of_bits binary64 0x3e45_798e_e230_8c3a ≡ lowest
unfolding of_bits decimal
lowest_is = refl

pub highest_is : of_bits binary64 0x4000_0000_0000_0000 ≡ highest
unfolding of_bits decimal
highest_is = refl
