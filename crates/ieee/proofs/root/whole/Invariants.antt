-- `ieee::root::whole` meets its contract. Newton's method: the invariant says that r is at least the root's whole part, and the measure is r. Assumes nothing.
use Rattle.ieee.proofs.Rooting.{Guess}
use Rattle.ieee.proofs.root.whole.Given as goal

abbrev pub invariant-loop-r : goal.invariant-loop-r
invariant-loop-r l = Guess l.s l.r

abbrev pub decreases-loop-r : goal.decreases-loop-r
decreases-loop-r l = l.r
