-- `hullwhite_model::theta` meets its contract: turned down by its rules, or what `theta_priced` finds. Assumes nothing.
use Rattle.hullwhite_model.specs.Curves.{theta_outcome}
use Rattle.refusals.proofs.Outcomes.{priced, after_refusal, after_served}
use Rattle.refusals.proofs.Refusing.{rises}
use Rattle.hullwhite_model.proofs.curves.theta.Goals as goal

pub theta_priced-requires : goal.theta_priced-requires
theta_priced-requires c = rises _ _ _ _ _ c.curve_faults-curve.ensures c.in_ok-theta_rules.was c.theta_rules.ensures (λ n. n.1.1.1.0)

pub returns-in_err-theta_rules : goal.returns-in_err-theta_rules
unfolding theta_outcome
returns-in_err-theta_rules c = priced _ (after_refusal _ (rw c.curve_faults-curve.ensures at c.in_err-theta_rules.ensures) c.from_residual.ensures.1)

pub returns : goal.returns
unfolding theta_outcome
returns c = priced _ (after_served _ (rw c.curve_faults-curve.ensures at c.in_ok-theta_rules.ensures) c.theta_priced.ensures)
