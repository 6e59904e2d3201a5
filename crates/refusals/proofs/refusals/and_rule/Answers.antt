-- `and_rule` meets its contract: a refusal stays, and a rule that applies is one where there was none.
use Rattle.refusals.specs.Refusals.{and_rule}
use Rattle.refusals.proofs.refusals.and_rule.Goals as goal

pub returns-in-Err : goal.returns-in-Err
unfolding and_rule
returns-in-Err c = rw c.in-Err.is

pub returns-then-applies : goal.returns-then-applies
unfolding and_rule
returns-then-applies c = rw (c.in-Ok.is, c.if-applies.true)

pub returns-else-applies : goal.returns-else-applies
unfolding and_rule
returns-else-applies c = rw (c.in-Ok.is, c.if-applies.false)
