-- `hullwhite_model::forward_rate_from_curve` meets its contract: turned down by its rules, or what `forward_priced` finds. Assumes nothing.
use Rattle.hullwhite_model.specs.Curves.{forward_outcome}
use Rattle.refusals.proofs.Outcomes.{priced, after_refusal, after_served}
use Rattle.refusals.proofs.Refusing.{rises}
use Rattle.hullwhite_model.proofs.curves.forward_rate_from_curve.Goals as goal

pub forward_priced-requires : goal.forward_priced-requires
forward_priced-requires c = rises _ _ _ _ _ c.curve_faults-curve.ensures c.in_ok-forward_rules.was c.forward_rules.ensures (λ n. n.1.1.0)

pub returns-in_err-forward_rules : goal.returns-in_err-forward_rules
unfolding forward_outcome
returns-in_err-forward_rules c = priced _ (after_refusal _ (rw c.curve_faults-curve.ensures at c.in_err-forward_rules.ensures) c.from_residual.ensures.1)

pub returns : goal.returns
unfolding forward_outcome
returns c = priced _ (after_served _ (rw c.curve_faults-curve.ensures at c.in_ok-forward_rules.ensures) c.forward_priced.ensures)
