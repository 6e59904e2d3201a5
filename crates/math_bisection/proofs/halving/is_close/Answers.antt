-- `math_bisection::halving::is_close` meets its contract. Assumes nothing.
use mathlib.Core.Path.{refl}
use Rattle.math_bisection.proofs.Literals.{tolerance_is}
use Rattle.math_bisection.proofs.halving.is_close.Goals as goal

pub returns : goal.returns
returns c = rw (c.abs.ensures, ← tolerance_is) refl
