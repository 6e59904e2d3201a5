-- Decimal constants. Document 01 and the Rust print them in decimal; an f64 holds the value nearest to the fraction that is printed.
use Rattle.std.specs.Prelude.{ℕ, ◌^◌, false, Float}
use Rattle.std.specs.Float.{binary64}
use Rattle.std.specs.Float.Ieee.{round}

-- digits / 10 ^ places, rounded once, to nearest: `decimal 65 2` is 0.65
unfoldable pub decimal : ℕ → ℕ → Float
unfolding round
decimal digits places = round binary64 false digits (10 ^ places)
