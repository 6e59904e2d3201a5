-- `math_normal::begun` meets its contract: the denominator's first step has room, and the first divisor is 13. Assumes nothing.
use mathlib.Core.Path.{refl}
use lib.Ieee.{of_bits, of_int}
use Rattle.math_normal.proofs.both.begun.Goals as goal

pub returns : goal.returns
unfolding of_bits of_int
returns c = record { numerator = refl; denominator = c.fixed_step.ensures; series = c.turn.ensures }
