-- `first_of` meets its contract. The loop's invariant: the answer so far, and then the rules from here on in turn, come to the first of all that applies.
use Rattle.std.proofs.Common.{◌≡◌, drop}
use Rattle.refusals.specs.Refusals.{first_of}
use Rattle.refusals.specs.Order.{in_turn}
use Rattle.refusals.proofs.refusals.first_of.Given as goal

abbrev pub invariant-loop-rule : goal.invariant-loop-rule
invariant-loop-rule l = in_turn l.answer (drop l.rule-index l.rules) ≡ first_of l.rules
