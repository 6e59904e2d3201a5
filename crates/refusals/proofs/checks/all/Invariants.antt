-- `all` meets its contract. The loop's invariant: the numbers from here on pass where all do.
use Rattle.std.proofs.Common.{◌≡◌, drop}
use Rattle.refusals.specs.Checks.{all_of}
use Rattle.refusals.proofs.checks.all.Given as goal

abbrev pub invariant-loop-x : goal.invariant-loop-x
invariant-loop-x l = all_of l.test (drop l.x-index l.xs) ≡ all_of l.test l.xs
