-- Demand 1, "the FIRST refusal in document 01's order": the rules of every call stand in the order of their refusals' places, so that the first of them that applies has the smallest place of all that apply.
use Rattle.std.specs.Prelude.{Bool, true, ◌&&◌, ℕ, T, ltb}
use mathlib.Core.List.{List, [], ◌∷◌}
use Rattle.refusals.specs.declared.refusals.Rule.{Rule}
use Rattle.refusals.specs.Refusals.{place_of}

-- places that rise from rule to rule, all above n
abbrev pub rising : ℕ → List Rule → Bool
rising n [] = true
rising n (x ∷ xs) = ltb n (place_of x.refusal) && rising (place_of x.refusal) xs

abbrev pub InOrder : List Rule → Type 0
InOrder rules = T (rising 0 rules)
