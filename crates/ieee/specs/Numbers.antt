-- The small numbers that formulas use, by the bits of the code's literals; `numbers_are` has the checker compute that each is the number it is called.
use Rattle.std.specs.Prelude.{◌≡◌, refl, Float}
use Rattle.std.specs.Float.{binary64}
use Rattle.std.specs.Float.Ieee.{of_bits}
use Rattle.ieee.specs.Decimal.{decimal}

abbrev pub zero : Float
zero = of_bits binary64 0

abbrev pub half : Float
half = of_bits binary64 0x3fe0_0000_0000_0000

abbrev pub one : Float
one = of_bits binary64 0x3ff0_0000_0000_0000

abbrev pub two : Float
two = of_bits binary64 0x4000_0000_0000_0000

abbrev pub three : Float
three = of_bits binary64 0x4008_0000_0000_0000

abbrev pub four : Float
four = of_bits binary64 0x4010_0000_0000_0000

pub record NumbersAre : Type 0 where
  pub zero_is : zero ≡ decimal 0 0
  pub half_is : half ≡ decimal 5 1
  pub one_is : one ≡ decimal 1 0
  pub two_is : two ≡ decimal 2 0
  pub three_is : three ≡ decimal 3 0
  pub four_is : four ≡ decimal 4 0

pub numbers_are : NumbersAre
unfolding of_bits decimal
numbers_are = record { zero_is = refl; half_is = refl; one_is = refl; two_is = refl; three_is = refl; four_is = refl }
