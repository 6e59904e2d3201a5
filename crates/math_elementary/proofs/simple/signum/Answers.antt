-- `math_elementary::signum` meets its contract: std's signum is the definition, case by case. Assumes nothing.
use mathlib.Core.Path.{◌∙◌}
use Rattle.math_elementary.proofs.Floats.{signum_is}
use Rattle.math_elementary.proofs.simple.signum.Goals as goal

pub returns : goal.returns
returns c = c.signum.ensures ∙ signum_is c.args.x
