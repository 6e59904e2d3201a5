-- `math_elementary::abs` meets its contract: std's abs is the definition, case by case. Assumes nothing.
use mathlib.Core.Path.{◌∙◌}
use Rattle.math_elementary.proofs.Floats.{abs_is}
use Rattle.math_elementary.proofs.simple.abs.Goals as goal

pub returns : goal.returns
returns c = c.abs.ensures.value ∙ abs_is c.args.x
