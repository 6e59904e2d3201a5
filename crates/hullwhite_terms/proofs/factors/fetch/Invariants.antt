-- `fetch` meets its contract: each turn of its loop writes the next factor, and a missing one ends it.
use Prim.Native.Nat.{◌-◌}
use lib.ListN.{length}
use Rattle.hullwhite_terms.proofs.Fetching.{Fetching}
use Rattle.hullwhite_terms.proofs.factors.fetch.Given as goal

abbrev pub invariant-loop-i : goal.invariant-loop-i
invariant-loop-i l = Fetching l.times l.factors l.payments l.i l.out

abbrev pub decreases-loop-i : goal.decreases-loop-i
decreases-loop-i l = length l.payments - l.i
