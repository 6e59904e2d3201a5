-- The continued fraction of the tail as a loop takes it: the next number is the first of those that are left. Assumes nothing.
use Rattle.std.proofs.Common.{◌≡◌, ℕ, zero, suc, ◌+◌, ◌<◌, ◌≤◌, List, [], ◌∷◌, length, drop, get_or, refl}
use native.Mathlib.Nat.{not-suc-le-zero, le_of_suc-le-suc}
use native.Mathlib.Numerals.{add-one}
use lib.Ieee.{Float, nan}
use Rattle.ieee.specs.Rounded.{◌⊕◌, ◌⊘◌}

-- b becomes z + n / b for each n
abbrev pub continued : Float → Float → List Float → Float
continued z b [] = b
continued z b (n ∷ ns) = continued z (z ⊕ n ⊘ b) ns

module _ (z : Float) where
  go : (b : Float) (ns : List Float) (i : ℕ) → i < length ns → continued z (z ⊕ get_or ns i nan ⊘ b) (drop (suc i) ns) ≡ continued z b (drop i ns)
  go b [] i h = absurd (not-suc-le-zero h)
  go b (n ∷ ns) zero h = refl
  go b (n ∷ ns) (suc i) h = go b ns i (le_of_suc-le-suc h)

  pub next : (b : Float) (ns : List Float) (i : ℕ) → i < length ns → continued z (z ⊕ get_or ns i nan ⊘ b) (drop (i + 1) ns) ≡ continued z b (drop i ns)
  next b ns i h = rw add-one (go b ns i h)

  pub none_left : (b : Float) (ns : List Float) (i : ℕ) → length ns ≤ i → continued z b (drop i ns) ≡ b
  none_left b [] zero h = refl
  none_left b [] (suc i) h = refl
  none_left b (n ∷ ns) zero h = absurd (not-suc-le-zero h)
  none_left b (n ∷ ns) (suc i) h = none_left b ns i (le_of_suc-le-suc h)
