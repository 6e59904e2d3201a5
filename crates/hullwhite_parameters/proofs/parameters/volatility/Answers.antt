-- `hullwhite_parameters::volatility` meets its contract: turned down by its rules, or what `volatility_found` finds. Assumes nothing.
use Rattle.hullwhite_parameters.specs.Parameters.{volatility_outcome}
use Rattle.refusals.proofs.Outcomes.{priced, after_refusal, after_served}
use Rattle.hullwhite_parameters.proofs.parameters.volatility.Goals as goal

pub returns-in_err-volatility_rules : goal.returns-in_err-volatility_rules
unfolding volatility_outcome
returns-in_err-volatility_rules c = priced _ (after_refusal _ (rw c.pillar_faults-pillars.ensures at c.in_err-volatility_rules.ensures) c.from_residual.ensures.1)

pub returns : goal.returns
unfolding volatility_outcome
returns c = priced _ (after_served _ (rw c.pillar_faults-pillars.ensures at c.in_ok-volatility_rules.ensures) c.volatility_found.ensures)
