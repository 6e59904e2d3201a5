-- `calstwid_exports::model::calstwid_B` meets its contract: the report is that of the call's outcome. Assumes nothing.
use mathlib.Core.Path.{◌∙◌}
use Rattle.calstwid_exports.proofs.model.calstwid_B.Goals as goal

pub returns : goal.returns
returns c = c.from.ensures ∙ c.B.ensures.report
