-- Text as bytes, and what a buffer holds that was written to from its front.
use Rattle.std.specs.Prelude.{◌≡◌, ℕ, zero, suc, ◌+◌, ◌/◌, ◌%◌, ◌≤◌, List, [], ◌∷◌, ◌++◌, length, take, drop}
use Prim.Native.Char.{code}
use Prim.Native.String.{String, [] as []ˢ, ◌∷◌ as ◌∷ˢ◌}

-- a text of ASCII characters
abbrev pub ascii : String → List ℕ
ascii []ˢ = []
ascii (c ∷ˢ s) = code c ∷ ascii s

-- the k lowest bytes of a word, the lowest first
unfoldable pub bytes_of : ℕ → ℕ → List ℕ
bytes_of zero n = []
bytes_of (suc k) n = n % 256 ∷ bytes_of k (n / 256)

-- d with s from place `at` on
abbrev pub pasted : List ℕ → ℕ → List ℕ → List ℕ
pasted d at s = take at d ++ s ++ drop (at + length s) d

-- what was `entry` begins with the text, n bytes, and is as it was behind them
pub record Begins (n : ℕ) (text entry exit : List ℕ) : Type 0 where
  pub counted : n ≡ length text
  pub within : n ≤ length exit
  pub front : take n exit ≡ text
  pub rest : drop n exit ≡ drop n entry
  -- the same as `within`, as a part of a slice asks it
  pub part : n ≡ length (take n exit)
