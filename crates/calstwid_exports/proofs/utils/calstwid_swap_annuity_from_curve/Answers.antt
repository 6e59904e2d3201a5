-- `calstwid_exports::utils::calstwid_swap_annuity_from_curve` meets its contract: the report is that of the call's outcome. Assumes nothing.
use mathlib.Core.Path.{◌∙◌}
use Rattle.calstwid_exports.proofs.utils.calstwid_swap_annuity_from_curve.Goals as goal

pub returns : goal.returns
returns c = c.from.ensures ∙ c.swap_annuity_from_curve.ensures.report
