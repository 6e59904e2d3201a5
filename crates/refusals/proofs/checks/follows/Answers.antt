-- `follows` meets its contract: each arm is what `follows_of` says.
use Rattle.refusals.proofs.checks.follows.Goals as goal

pub returns-then-strictly : goal.returns-then-strictly
returns-then-strictly c = rw c.if-strictly.true

pub returns-else-strictly : goal.returns-else-strictly
returns-else-strictly c = rw c.if-strictly.false
