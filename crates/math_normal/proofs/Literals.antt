-- The decimal constants of specs/ are the code's literals: antt rounds each printed fraction and compares the bits. Assumes nothing.
use mathlib.Core.Path.{◌≡◌, refl}
use lib.Ieee.{binary64, of_bits}
use Rattle.ieee.specs.Decimal.{decimal}
use Rattle.math_normal.specs.NormCdf.{limit, threshold, tail_start}

pub limit_is : of_bits binary64 0x4042_8000_0000_0000 ≡ limit
unfolding of_bits decimal
limit_is = refl

pub threshold_is : of_bits binary64 0x401c_48c6_001f_0abf ≡ threshold
unfolding of_bits decimal
threshold_is = refl

pub tail_start_is : of_bits binary64 0x3fe4_cccc_cccc_cccd ≡ tail_start
unfolding of_bits decimal
tail_start_is = refl
