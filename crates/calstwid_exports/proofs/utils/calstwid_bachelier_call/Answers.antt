-- `calstwid_exports::utils::calstwid_bachelier_call` meets its contract: the report is that of the call's outcome. Assumes nothing.
use mathlib.Core.Path.{◌∙◌}
use Rattle.calstwid_exports.proofs.utils.calstwid_bachelier_call.Goals as goal

pub returns : goal.returns
returns c = c.from.ensures ∙ c.bachelier_call.ensures.report
