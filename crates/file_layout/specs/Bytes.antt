-- Numbers as bytes, the least byte first, and floats as their bits.
use Rattle.std.specs.Prelude.{ℕ, ◌+◌, ◌*◌, List, get_or, Float}
use Rattle.std.specs.Float.{binary64}
use Rattle.std.specs.Float.Ieee.{of_bits}

-- the four bytes of s from place n on, "u32"
abbrev pub four_bytes : List ℕ → ℕ → ℕ
four_bytes s n = get_or s n 0 + 256 * get_or s (n + 1) 0 + 65536 * get_or s (n + 2) 0 + 16777216 * get_or s (n + 3) 0

-- the eight bytes of s from place n on, "u64"
abbrev pub eight_bytes : List ℕ → ℕ → ℕ
eight_bytes s n = four_bytes s n + 4294967296 * four_bytes s (n + 4)

-- the number with the bits n; "NaNs are not told apart"
abbrev pub float_of : ℕ → Float
float_of n = of_bits binary64 n

-- "All floats are f64, little-endian in files": the float at place n
abbrev pub float_at : List ℕ → ℕ → Float
float_at s n = float_of (eight_bytes s n)
