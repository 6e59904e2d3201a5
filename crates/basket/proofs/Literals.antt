-- The bump of specs/ is the code's literal: antt rounds the printed fraction and compares the bits. Assumes nothing.
use mathlib.Core.Path.{◌≡◌, refl}
use lib.Ieee.{binary64, of_bits}
use Rattle.ieee.specs.Decimal.{decimal}
use Rattle.basket.specs.Basket.{bump}

pub bump_is : of_bits binary64 0x3eb0_c6f7_a0b5_ed8d ≡ bump
unfolding of_bits decimal
bump_is = refl
