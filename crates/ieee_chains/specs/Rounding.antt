-- The rounding of a whole number of 54 to 62 digits, with a sticky digit below it, to 53 digits. For contracts of parts below the calls only.
use Rattle.std.specs.Prelude.{ℕ, ◌+◌, ◌-◌, ◌*◌, ◌/◌, ◌%◌, ◌^◌}
use Rattle.std.specs.Int.Count.{count_leading_zeros}

-- by how many places it is raised, to 63 digits
abbrev pub up_of : ℕ → ℕ
up_of h = count_leading_zeros 64 h - 1

-- the digits that are left of 63, ten of them dropped, ties to even
abbrev pub digits_of : ℕ → ℕ → ℕ
digits_of h s = let m = h * 2 ^ up_of h % 2 ^ 64 + s in (m + 511 + m / 1024 % 2) / 1024
