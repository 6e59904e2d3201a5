-- `math_bisection::halving::moved` meets its contract. Assumes nothing.
use mathlib.Core.Path.{sym, ◌∙◌}
use Rattle.math_bisection.specs.Solve.{ends_moved_to}
use Rattle.math_bisection.proofs.halving.moved.Goals as goal

pub returns-then-same_sign : goal.returns-then-same_sign
unfolding ends_moved_to
returns-then-same_sign c = rw (sym c.same_sign.ensures ∙ c.if-same_sign.true)

pub returns-else-same_sign : goal.returns-else-same_sign
unfolding ends_moved_to
returns-else-same_sign c = rw (sym c.same_sign.ensures ∙ c.if-same_sign.false)
