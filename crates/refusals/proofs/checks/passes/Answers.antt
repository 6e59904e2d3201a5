-- `passes` meets its contract: each arm is what `passes_of` says of its variant.
use Rattle.refusals.proofs.checks.passes.Goals as goal

pub returns-in-Zero : goal.returns-in-Zero
returns-in-Zero c = rw c.in-Zero.is

pub returns-in-Above : goal.returns-in-Above
returns-in-Above c = rw c.in-Above.is

pub returns-in-AtLeast : goal.returns-in-AtLeast
returns-in-AtLeast c = rw c.in-AtLeast.is
