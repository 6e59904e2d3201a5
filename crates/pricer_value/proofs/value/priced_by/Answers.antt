-- `pricer_value::value::priced_by` meets its contract: refused by the search or by the Newton step, or the components at the stepped rate. Assumes nothing.
use Rattle.std.specs.Prelude.{Ok}
use borrow.Author.Rules.{rules}
use Rattle.refusals.proofs.Outcomes.{handed_on}
use Rattle.pricer_value.proofs.Pricing.{searched, step_refused, valued}
use Rattle.pricer_value.proofs.value.priced_by.Goals as goal

pub returns-in-Err-NotANumber : goal.returns-in-Err-NotANumber
returns-in-Err-NotANumber c = searched _ _ _ _ _ _ _ _ _ _ _ c.find_critical_rate_of-found.ensures.is (search rules)

pub returns-in_default-found : goal.returns-in_default-found
returns-in_default-found c =
    searched _ _ _ _ _ _ _ _ _ _ _ c.find_critical_rate_of-found.ensures.is (search rules)

pub returns-in_err-after_step : goal.returns-in_err-after_step
returns-in_err-after_step c =
    searched _ _ _ _ _ _ _ _ _ _ (Ok _) c.in-Ok.ensures.is (step_refused _ _ _ _ _ _ _ _ _ _ _ c.in_err-after_step.ensures (handed_on c.from_residual.ensures.1))

pub returns : goal.returns
returns c =
    searched _ _ _ _ _ _ _ _ _ _ (Ok _) c.in-Ok.ensures.is (valued _ _ _ _ _ _ _ _ _ _ _ c.in_ok-after_step.ensures c.components-sum.ensures c.finished.ensures)
