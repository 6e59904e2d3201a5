-- `hullwhite_jamshidian::price::puts` meets its contract. The loop's invariant: the puts left, added to the total so far, give the whole sum. Assumes nothing.
use mathlib.Core.Path.{◌≡◌}
use lib.ListN.{drop}
use Rattle.hullwhite_jamshidian.specs.Ahead.{puts_ahead_onto, puts_ahead}
use Rattle.hullwhite_jamshidian.proofs.price.puts.Given as goal

abbrev pub invariant-loop-i : goal.invariant-loop-i
invariant-loop-i l = puts_ahead_onto l.total l.ahead l.sigma l.rate (drop l.i l.c) (drop l.i l.a) (drop l.i l.b) (drop l.i l.p) ≡ puts_ahead l.ahead l.sigma l.rate l.c l.a l.b l.p
