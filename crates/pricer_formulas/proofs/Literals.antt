-- The decimal constants of specs/ are the code's literals: antt rounds each printed fraction and compares the bits. Assumes nothing.
use mathlib.Core.Path.{◌≡◌, refl}
use lib.Ieee.{binary64, of_bits}
use Rattle.ieee.specs.Decimal.{decimal}
use Rattle.pricer_formulas.specs.BondOption.{still}
use Rattle.pricer_formulas.specs.Newton.{flat_limit}

pub still_is : of_bits binary64 0x3d71_9799_812d_ea11 ≡ still
unfolding of_bits decimal
still_is = refl

pub flat_limit_is : of_bits binary64 0x3d06_849b_86a1_2b9b ≡ flat_limit
unfolding of_bits decimal
flat_limit_is = refl
