-- `hullwhite_points::decays::write_decays` meets its contract. The loop's invariant: the decays worked, and behind them those of the grid from place i on, are the decays of the whole grid. Assumes nothing.
use mathlib.Core.Path.{◌≡◌}
use mathlib.Core.List.{◌++◌}
use Prim.Native.Nat.{◌≤◌, ◌-◌}
use lib.ListN.{length, take, drop}
use Rattle.ieee.specs.Numbers.{zero}
use Rattle.hullwhite_points.specs.Walk.{decays_from}
use Rattle.hullwhite_points.proofs.decays.write_decays.Given as goal

abbrev pub invariant-loop-i : goal.invariant-loop-i
invariant-loop-i l = (l.i ≤ length l.grid) × (length l.out ≡ length l.initial.out) × (take l.i l.out ++ decays_from l.alpha l.before (drop l.i l.grid) ≡ decays_from l.alpha zero l.grid)

abbrev pub decreases-loop-i : goal.decreases-loop-i
decreases-loop-i l = length l.grid - l.i
