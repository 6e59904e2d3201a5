-- `hullwhite_parameters::hull_white_piecewise_variance` meets its contract: turned down by its rules, or the formula. Assumes nothing.
use mathlib.Core.Path.{ap, ◌∙◌}
use Rattle.refusals.specs.Refusals.{finishing}
use Rattle.hullwhite_parameters.specs.Parameters.{piecewise_variance_outcome}
use Rattle.refusals.proofs.Outcomes.{priced, after_refusal, after_served}
use Rattle.hullwhite_parameters.proofs.parameters.hull_white_piecewise_variance.Goals as goal

pub returns-in_err-variance_rules : goal.returns-in_err-variance_rules
unfolding piecewise_variance_outcome
returns-in_err-variance_rules c = priced _ (after_refusal _ (rw c.pillar_faults-pillars.ensures at c.in_err-variance_rules.ensures) c.from_residual.ensures.1)

pub returns : goal.returns
unfolding piecewise_variance_outcome
returns c = priced _ (after_served _ (rw c.pillar_faults-pillars.ensures at c.in_ok-variance_rules.ensures) (c.served.ensures ∙ ap finishing c.hull_white_piecewise_variance_of.ensures))
