-- `math_normal::tail` meets its contract: what is left of the continued fraction, from b on, is the whole; its constants are the literals. Assumes nothing.
use mathlib.Core.Path.{refl, sym, ◌∙◌}
use Rattle.math_elementary.proofs.Literals.{sqrt2pi_is}
use Rattle.math_normal.proofs.Literals.{tail_start_is}
use Rattle.math_normal.proofs.Fraction.{next, none_left}
use Rattle.math_normal.proofs.normal.tail.Goals as goal

pub loop-n-init : goal.loop-n-init
loop-n-init c = rw (← tail_start_is) refl

pub loop-n-preserved : goal.loop-n-preserved
loop-n-preserved c = next c.args.z c.loop-n.b _ c.loop-n.n-index c.loop-n-test.true ∙ c.loop-n.invariant

pub returns : goal.returns
returns c = rw (← sqrt2pi_is, sym (none_left c.args.z c.loop-n.b _ c.loop-n.n-index c.loop-n-test.false) ∙ c.loop-n.invariant)
