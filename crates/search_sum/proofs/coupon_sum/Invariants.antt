-- `search_sum::coupon_sum` meets its contract. The loop's invariant: the terms left, added to the sum so far, give the whole sum. Assumes nothing.
use mathlib.Core.Path.{◌≡◌}
use Prim.Native.Nat.{◌-◌, ◌≤◌}
use lib.ListN.{drop}
use Rattle.search_sum.specs.Sum.{weighted_onto, weighted_sum}
use Rattle.search_sum.proofs.coupon_sum.Given as goal

abbrev pub invariant-loop-i : goal.invariant-loop-i
invariant-loop-i l = (l.i ≤ l.n) × (weighted_onto l.sum (drop l.i l.weights) (drop l.i l.b) l.rate ≡ weighted_sum l.weights l.b l.rate)

abbrev pub decreases-loop-i : goal.decreases-loop-i
decreases-loop-i l = l.n - l.i
