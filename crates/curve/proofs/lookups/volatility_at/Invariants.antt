-- `volatility_at` meets its contract. The loop's invariant: the last pillar among those from place i on, with the best so far, is the last of all, with the first.
use mathlib.Core.Path.{◌≡◌}
use lib.ListN.{drop, get_or}
use lib.Ieee.{nan}
use Rattle.curve.specs.Lookups.{last_at}
use Rattle.curve.proofs.lookups.volatility_at.Given as goal

abbrev pub invariant-loop-i : goal.invariant-loop-i
invariant-loop-i l = last_at l.best (drop l.i l.times) (drop l.i l.sigmas) l.t ≡ last_at (get_or l.sigmas 0 nan) l.times l.sigmas l.t
