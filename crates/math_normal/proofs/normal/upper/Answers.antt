-- `math_normal::upper` meets its contract: by the tests against 37 and against the threshold. Assumes nothing.
use lib.Ieee.{of_bits}
use Rattle.math_normal.specs.NormCdf.{upper_of}
use Rattle.math_normal.proofs.Literals.{limit_is, threshold_is}
use Rattle.math_normal.proofs.normal.upper.Goals as goal

pub returns-then-z : goal.returns-then-z
unfolding upper_of of_bits
returns-then-z g c = rw (← limit_is, c.if-z.true)

pub returns-then-z-2 : goal.returns-then-z-2
unfolding upper_of
returns-then-z-2 g c = rw (← limit_is, c.if-z.false, ← threshold_is, c.if-z-2.true) (cc)

pub returns-else-z-2 : goal.returns-else-z-2
unfolding upper_of
returns-else-z-2 g c = rw (← limit_is, c.if-z.false, ← threshold_is, c.if-z-2.false) (cc)
