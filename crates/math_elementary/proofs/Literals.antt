-- The decimal constants of specs/ are the code's literals: antt rounds each printed fraction and compares the bits. Assumes nothing.
use mathlib.Core.Path.{◌≡◌, refl}
use lib.Ieee.{binary64, neg, of_bits}
use Rattle.ieee.specs.Decimal.{decimal}
use Rattle.math_elementary.specs.Constants.{log2e, ln2hi, ln2lo, exp_top, exp_bottom, sqrt2pi}

pub log2e_is : of_bits binary64 0x3ff7_1547_652b_82fe ≡ log2e
unfolding of_bits decimal
log2e_is = refl

pub ln2hi_is : of_bits binary64 0x3fe6_2e42_fee0_0000 ≡ ln2hi
unfolding of_bits decimal
ln2hi_is = refl

pub ln2lo_is : of_bits binary64 0x3dea_39ef_3579_3c76 ≡ ln2lo
unfolding of_bits decimal
ln2lo_is = refl

pub exp_top_is : of_bits binary64 0x4086_3000_0000_0000 ≡ exp_top
unfolding of_bits decimal
exp_top_is = refl

pub exp_bottom_is : of_bits binary64 0xc087_5000_0000_0000 ≡ exp_bottom
unfolding neg of_bits decimal
exp_bottom_is = refl

pub sqrt2pi_is : of_bits binary64 0x4004_0d93_1ff6_2706 ≡ sqrt2pi
unfolding of_bits decimal
sqrt2pi_is = refl
