-- `part` meets its contract. The loop's invariant: the times before `low` are before t, and those from `high` on are not.
use Prim.Native.Nat.{◌≤◌, ◌-◌}
use lib.ListN.{length}
use Rattle.curve.specs.Lookups.{Front, Back}
use Rattle.curve.proofs.lookups.part.Given as goal

abbrev pub invariant-loop-low : goal.invariant-loop-low
invariant-loop-low l = (l.low ≤ l.high) × (l.high ≤ length l.times) × Front l.strictly l.times l.t l.low × Back l.strictly l.times l.t l.high

abbrev pub decreases-loop-low : goal.decreases-loop-low
decreases-loop-low l = l.high - l.low
