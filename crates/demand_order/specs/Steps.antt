-- The factors found of a call, and a call that needs no time.
use Rattle.std.specs.Prelude.{List, [], get_or, Float, Ok}
use Prim.Native.Nat.{ℕ}
use Rattle.std.specs.Float.{nan}
use Rattle.refusals.specs.Refusals.{Outcome}

-- the i-th of the factors found, from 0
abbrev pub nth : ℕ → List Float → Float
nth i ps = get_or ps i nan

-- a call that needs no time
abbrev pub no_times : Outcome (List Float)
no_times = Ok []
