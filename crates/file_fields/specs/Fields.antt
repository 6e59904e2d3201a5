-- Document 01, "The run file": the fields of a line, as bytes.
use Rattle.std.specs.Prelude.{ℕ, zero, suc, ◌+◌, ◌/◌, ◌%◌, cond, List, [], ◌∷◌, ◌++◌, ltb, Float}
use Rattle.std.specs.Float.{binary64}
use Rattle.std.specs.Float.Ieee.{is_nan, to_bits}

-- "in decimal": the digits of n, no zero in front of them but 0's own; at most k of them
unfoldable pub decimal_in : ℕ → ℕ → List ℕ
decimal_in zero n = []
decimal_in (suc k) n = cond (ltb n 10) [] (decimal_in k (n / 10)) ++ ((48 + n % 10) ∷ [])

-- a u64 has at most 20
abbrev pub decimal_of : ℕ → List ℕ
decimal_of n = decimal_in 20 n

-- "lower-case hexadecimal digits": `0` to `9`, then `a` to `f`
abbrev pub hex_digit : ℕ → ℕ
hex_digit d = cond (ltb d 10) (48 + d) (87 + d)

-- the last k of n, the most significant first
unfoldable pub hex_in : ℕ → ℕ → List ℕ
hex_in zero n = []
hex_in (suc k) n = hex_in k (n / 16) ++ (hex_digit (n % 16) ∷ [])

-- "16 lower-case hexadecimal digits"
abbrev pub hex_of : ℕ → List ℕ
hex_of n = hex_in 16 n

-- "of its bits"; every NaN has those of one, though none is ever printed
abbrev pub bits_of : Float → ℕ
bits_of x = cond (is_nan x) 0x7ff8_0000_0000_0000 (to_bits binary64 x)

-- a field, and the byte behind it: a space (32) or, of the last one, a newline (10)
abbrev pub ending : ℕ → List ℕ → List ℕ
ending byte field = field ++ (byte ∷ [])
