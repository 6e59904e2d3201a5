-- `calstwid_exports::model::calstwid_forward_rate_from_curve` meets its contract: the report is that of the call's outcome. Assumes nothing.
use mathlib.Core.Path.{◌∙◌}
use Rattle.calstwid_exports.proofs.model.calstwid_forward_rate_from_curve.Goals as goal

pub returns : goal.returns
returns c = c.from.ensures ∙ c.forward_rate_from_curve.ensures.report
