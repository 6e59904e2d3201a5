-- Whether a grid starts below 0, by its length. Assumes nothing.
use mathlib.Core.Path.{◌≡◌, refl}
use mathlib.Core.Bool.{false}
use mathlib.Core.List.{List, [], ◌∷◌}
use native.Mathlib.Omega.{arith}
use lib.ListN.{length, get_or}
use lib.Ieee.{Float, nan, lt}
use Rattle.ieee.specs.Numbers as Numbers
use Rattle.hullwhite_paths.specs.Generate.{starts_below}

pub starts_none : (xs : List Float) → length xs ≡ 0 → starts_below xs ≡ false
starts_none [] h = refl
starts_none (x ∷ xs) h = absurd (let z : ⊥ = omega arith in z)

pub starts_first : (xs : List Float) → (length xs ≡ 0 → ⊥) → starts_below xs ≡ lt (get_or xs 0 nan) Numbers.zero
starts_first [] h = absurd (h refl)
starts_first (x ∷ xs) h = refl
