-- The definitions at document 01's whole case, worked by the checker.
use mathlib.Core.Path.{◌≡◌, refl}
use Rattle.file_fields.specs.Text.{ascii}
use Rattle.file_fields.specs.Fields.{decimal_in, hex_in}
use Rattle.file_lines.specs.Lines.{line_of}

pub first_line : line_of 0 3 0 0 0 ≡ ascii "0 3 0 0000000000000000 0\n"
unfolding decimal_in hex_in line_of
first_line = refl

pub second_line : line_of 1 4 0 0x3fe0_0000_0000_0000 0 ≡ ascii "1 4 0 3fe0000000000000 0\n"
unfolding decimal_in hex_in line_of
second_line = refl
