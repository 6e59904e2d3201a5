-- `math_elementary::joined` meets its contract: the definition's operations in its order, with the two ln constants its literals. Assumes nothing.
use native.Mathlib.Omega.{arith}
use mir.Syntax.{w32}
use Rattle.math_elementary.proofs.Literals.{ln2hi_is, ln2lo_is}
use mir.ValLaws.{to_z-of_z}
use Rattle.math_elementary.proofs.logarithm.joined.Goals as goal

pub returns : goal.returns
returns c = rw (← ln2hi_is, ← ln2lo_is) (cc (to_z-of_z w32 c.args.h.k (record { sfits = omega (arith, c.args.h.small) })))
