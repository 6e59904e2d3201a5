-- `calstwid_exports::parameters::calstwid_hull_white_piecewise_variance` meets its contract: the report is that of the call's outcome. Assumes nothing.
use mathlib.Core.Path.{◌∙◌}
use Rattle.calstwid_exports.proofs.parameters.calstwid_hull_white_piecewise_variance.Goals as goal

pub returns : goal.returns
returns c = c.from.ensures ∙ c.hull_white_piecewise_variance.ensures.report
