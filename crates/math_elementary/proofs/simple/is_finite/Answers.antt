-- `math_elementary::is_finite` meets its contract: what lies between the infinities is finite. Assumes nothing.
use Rattle.math_elementary.proofs.Floats.{finite_is}
use Rattle.math_elementary.proofs.simple.is_finite.Goals as goal

pub returns : goal.returns
returns c = finite_is c.args.x
