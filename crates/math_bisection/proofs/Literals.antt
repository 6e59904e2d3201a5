-- The tolerance of specs/ is the code's literal: antt rounds the printed fraction and compares the bits. Assumes nothing.
use mathlib.Core.Path.{◌≡◌, refl}
use lib.Ieee.{binary64, of_bits}
use Rattle.ieee.specs.Decimal.{decimal}
use Rattle.math_bisection.specs.Solve.{tolerance}

pub tolerance_is : of_bits binary64 0x3d71_9799_812d_ea11 ≡ tolerance
unfolding of_bits decimal
tolerance_is = refl
