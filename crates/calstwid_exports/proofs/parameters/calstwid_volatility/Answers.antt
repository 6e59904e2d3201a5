-- `calstwid_exports::parameters::calstwid_volatility` meets its contract: the report is that of the call's outcome. Assumes nothing.
use mathlib.Core.Path.{◌∙◌}
use Rattle.calstwid_exports.proofs.parameters.calstwid_volatility.Goals as goal

pub returns : goal.returns
returns c = c.from.ensures ∙ c.volatility.ensures.report
