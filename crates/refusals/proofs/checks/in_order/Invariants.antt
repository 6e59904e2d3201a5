-- `in_order` meets its contract. The loop's invariant: the steps from place i on pass where all do.
use Rattle.std.proofs.Common.{◌≡◌, drop}
use Rattle.refusals.specs.Checks.{in_order, in_order_from}
use Rattle.refusals.proofs.checks.in_order.Given as goal

abbrev pub invariant-loop-i : goal.invariant-loop-i
invariant-loop-i l = in_order_from l.strictly l.before (drop l.i l.xs) ≡ in_order l.strictly l.xs
