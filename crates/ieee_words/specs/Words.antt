-- A shift to the right that leaves a sticky digit for what it drops, and how many digits a number has.
use Rattle.std.specs.Prelude.{ℕ, ◌+◌, ◌-◌, ◌*◌, ◌/◌, ◌%◌, ◌^◌, ◌<◌, ◌≤◌, min}

-- m shifted right by d, and below it the sticky digit: 1 where a digit 1 was shifted out
abbrev pub jammed : ℕ → ℕ → ℕ
jammed m d = 2 * (m / 2 ^ d) + min (m % 2 ^ d) 1

-- m has n binary digits
pub record Width (m n : ℕ) : Type 0 where
  pub under : m < 2 ^ n
  pub over : 0 < n → 2 ^ (n - 1) ≤ m
