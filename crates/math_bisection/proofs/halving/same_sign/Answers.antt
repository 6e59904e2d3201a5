-- `math_bisection::halving::same_sign` meets its contract. Assumes nothing.
use mathlib.Core.Path.{refl}
use Rattle.math_bisection.proofs.halving.same_sign.Goals as goal

pub returns : goal.returns
returns c = rw (c.signum.ensures, c.signum-2.ensures) refl
