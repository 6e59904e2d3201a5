-- `calstwid_exports::options::calstwid_caplet_price` meets its contract: the report is that of the call's outcome. Assumes nothing.
use mathlib.Core.Path.{◌∙◌}
use Rattle.calstwid_exports.proofs.options.calstwid_caplet_price.Goals as goal

pub returns : goal.returns
returns c = c.from.ensures ∙ c.caplet_price.ensures.report
