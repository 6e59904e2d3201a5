-- `calstwid_exports::model::calstwid_zcb_price_volatility` meets its contract: the report is that of the call's outcome. Assumes nothing.
use mathlib.Core.Path.{◌∙◌}
use Rattle.calstwid_exports.proofs.model.calstwid_zcb_price_volatility.Goals as goal

pub returns : goal.returns
returns c = c.from.ensures ∙ c.zcb_price_volatility.ensures.report
