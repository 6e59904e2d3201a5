-- Where a piece ends, by the place of the next pillar. Assumes nothing.
use mathlib.Core.Path.{◌≡◌}
use mathlib.Core.List.{List}
use Prim.Native.Nat.{ℕ, ◌≤◌, ◌<◌}
use lib.ListN.{length, get_or, drop}
use lib.Ieee.{Float, nan}
use Rattle.math_elementary.specs.Simple.{min_of}
use Rattle.refusals.proofs.Walks.{next, done}
use Rattle.hullwhite_parameters.specs.Variance.{piece_upper_of}

pub upper_next : (end : Float) (xs : List Float) (j : ℕ) → j < length xs → piece_upper_of end (drop j xs) ≡ min_of end (get_or xs j nan)
upper_next end xs j h = rw (next xs j h)

pub upper_end : (end : Float) (xs : List Float) (j : ℕ) → length xs ≤ j → piece_upper_of end (drop j xs) ≡ end
upper_end end xs j h = rw (done xs j h)
