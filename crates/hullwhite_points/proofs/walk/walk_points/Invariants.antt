-- `hullwhite_points::walk::walk_points` meets its contract. The loop's invariant: the points worked, and behind them those of the grid from place i on, are the points of the whole grid; and the output still holds the decays over the steps from i on. Assumes nothing.
use mathlib.Core.Path.{◌≡◌}
use lib.ListN.{take, drop}
use Rattle.hullwhite_points.specs.Walk.{decays_from}
use Rattle.hullwhite_points.specs.Path.{start_state, path_from}
use Rattle.hullwhite_points.proofs.Walks.{prepend_all}
use Rattle.hullwhite_points.proofs.walk.walk_points.Given as goal

abbrev pub invariant-loop-i : goal.invariant-loop-i
invariant-loop-i l = (drop l.i l.out ≡ decays_from l.alpha l.s.t (drop l.i l.grid)) × (prepend_all (take l.i l.out) (path_from l.centre l.alpha l.pillars l.sigmas l.times l.factors l.s (drop l.i l.grid) (drop l.i l.draws)) ≡ path_from l.centre l.alpha l.pillars l.sigmas l.times l.factors start_state l.grid l.draws)
