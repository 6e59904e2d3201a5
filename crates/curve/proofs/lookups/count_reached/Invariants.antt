-- `count_reached` meets its contract. The loop's invariant: the n times passed, with those of the rest up to t, are the times up to t.
use Rattle.std.proofs.Common.{◌≡◌, ◌++◌, drop, take}
use Rattle.curve.specs.Lookups.{up_to}
use Rattle.curve.proofs.lookups.count_reached.Given as goal

abbrev pub invariant-loop-n : goal.invariant-loop-n
invariant-loop-n l = take l.n l.times ++ up_to l.t (drop l.n l.times) ≡ up_to l.t l.times
