-- `hullwhite_model::zcb_price_volatility` meets its contract: turned down by its rules, or the formula. Assumes nothing.
use mathlib.Core.Path.{ap, ◌∙◌}
use Rattle.refusals.specs.Refusals.{finishing}
use Rattle.hullwhite_model.specs.Curves.{zcb_price_volatility_outcome}
use Rattle.refusals.proofs.Outcomes.{priced, after_refusal, after_served}
use Rattle.hullwhite_model.proofs.curves.zcb_price_volatility.Goals as goal

pub returns-in_err-option_rules : goal.returns-in_err-option_rules
unfolding zcb_price_volatility_outcome
returns-in_err-option_rules c = priced _ (after_refusal _ (rw c.no_faults.ensures at c.in_err-option_rules.ensures) c.from_residual.ensures.1)

pub returns : goal.returns
unfolding zcb_price_volatility_outcome
returns c = priced _ (after_served _ (rw c.no_faults.ensures at c.in_ok-option_rules.ensures) (c.served.ensures ∙ ap finishing c.zcb_price_volatility_of.ensures))
