-- `hullwhite_model::B` meets its contract: turned down by its rules, or the formula. Assumes nothing.
use mathlib.Core.Path.{ap, ◌∙◌}
use Rattle.refusals.specs.Refusals.{finishing}
use Rattle.hullwhite_model.specs.Curves.{b_outcome}
use Rattle.refusals.proofs.Outcomes.{priced, after_refusal, after_served}
use Rattle.hullwhite_model.proofs.curves.B.Goals as goal

pub returns-in_err-option_rules : goal.returns-in_err-option_rules
unfolding b_outcome
returns-in_err-option_rules c = priced _ (after_refusal _ (rw c.no_faults.ensures at c.in_err-option_rules.ensures) c.from_residual.ensures.1)

pub returns : goal.returns
unfolding b_outcome
returns c = priced _ (after_served _ (rw c.no_faults.ensures at c.in_ok-option_rules.ensures) (c.served.ensures ∙ ap finishing c.b_of.ensures))
