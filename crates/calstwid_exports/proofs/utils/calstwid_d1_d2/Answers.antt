-- `calstwid_exports::utils::calstwid_d1_d2` meets its contract: the report is that of the call's outcome. Assumes nothing.
use mathlib.Core.Path.{◌∙◌, ap}
use Rattle.calstwid_exports.specs.Reports.{d1_d2_report_of}
use Rattle.calstwid_exports.proofs.utils.calstwid_d1_d2.Goals as goal

pub returns : goal.returns
returns c = c.from.ensures ∙ ap d1_d2_report_of c.d1_d2.ensures.answer
