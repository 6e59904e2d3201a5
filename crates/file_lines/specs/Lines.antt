-- Document 01, "The run file": what the program prints.
use Rattle.std.specs.Prelude.{ℕ, List, ◌++◌}
use Rattle.file_fields.specs.Text.{ascii}
use Rattle.file_fields.specs.Fields.{decimal_of, hex_of, ending}

-- "The program .. prints `job kind answer value note`, then a line a job"
abbrev pub header : List ℕ
header = ascii "job kind answer value note\n"

-- "then the program prints only `refused 1`"
abbrev pub refused_line : List ℕ
refused_line = ascii "refused 1\n"

-- "job from 0, kind, answer in decimal, value as 16 lower-case hexadecimal digits of its bits, note"
unfoldable pub line_of : ℕ → ℕ → ℕ → ℕ → ℕ → List ℕ
line_of job kind answer bits note =
    ending 32 (decimal_of job)
    ++ ending 32 (decimal_of kind)
    ++ ending 32 (decimal_of answer)
    ++ ending 32 (hex_of bits)
    ++ ending 10 (decimal_of note)
