-- The definition of a number's decimal digits at a few numbers, worked by the checker.
use mathlib.Core.Path.{◌≡◌, refl}
use Rattle.file_fields.specs.Text.{ascii}
use Rattle.file_fields.specs.Fields.{decimal_in, decimal_of}

pub zero_is : decimal_of 0 ≡ ascii "0"
unfolding decimal_in
zero_is = refl

pub ten_is : decimal_of 10 ≡ ascii "10"
unfolding decimal_in
ten_is = refl

pub greatest_is : decimal_of 0xffff_ffff_ffff_ffff ≡ ascii "18446744073709551615"
unfolding decimal_in
greatest_is = refl
