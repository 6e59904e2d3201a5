-- `ieee::root::whole` meets its contract. Newton's method: the invariant says that r is at least the root's whole part, and the measure is r. Assumes nothing.
use mathlib.Core.Path.{sym}
use native.Mathlib.Nat.{lt_of_lt_of_le}
use lib.Pow.{pow_pos}
use Rattle.ieee.proofs.Rooting.{guess_first, first_sum, guess_next, guess_square, guess_sum, newton_below}
use Rattle.ieee.proofs.Roots.{root_is}
use Rattle.ieee.proofs.root.whole.Goals as goal

pub nonzero_div-r : goal.nonzero_div-r
nonzero_div-r c = lt_of_lt_of_le (pow_pos 30) c.guess-g.ensures.0

pub overflow_add-r : goal.overflow_add-r
overflow_add-r c = first_sum c.args.s c.guess-g.result c.requires.1 c.guess-g.ensures.1

pub loop-r-init : goal.loop-r-init
loop-r-init c = guess_first c.args.s c.guess-g.result c.requires.0 c.requires.1 c.guess-g.ensures.0 c.guess-g.ensures.1

pub overflow_mul-r : goal.overflow_mul-r
overflow_mul-r c = guess_square c.args.s c.loop-r.r c.loop-r.invariant

pub nonzero_div-r-in-loop-r : goal.nonzero_div-r-in-loop-r
nonzero_div-r-in-loop-r c = c.loop-r.invariant.large

pub overflow_add-r-in-loop-r : goal.overflow_add-r-in-loop-r
overflow_add-r-in-loop-r c = guess_sum c.args.s c.loop-r.r c.requires.1 c.loop-r.invariant

pub loop-r-smaller : goal.loop-r-smaller
loop-r-smaller c = newton_below c.args.s c.loop-r.r c.loop-r.invariant.large c.loop-r-test.true

pub loop-r-preserved : goal.loop-r-preserved
loop-r-preserved c = guess_next c.args.s c.loop-r.r c.requires.0 c.loop-r.invariant c.loop-r-test.true

pub returns : goal.returns
returns c = sym (root_is c.loop-r.r c.args.s c.loop-r-test.false c.loop-r.invariant.above)
