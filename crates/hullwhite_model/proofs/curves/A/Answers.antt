-- `hullwhite_model::A` meets its contract: turned down by its rules, or what `a_priced` finds. Assumes nothing.
use Rattle.hullwhite_model.specs.Curves.{a_outcome}
use Rattle.refusals.proofs.Outcomes.{priced, after_refusal, after_served}
use Rattle.refusals.proofs.Refusing.{rises}
use Rattle.hullwhite_model.proofs.curves.A.Goals as goal

pub a_priced-requires : goal.a_priced-requires
a_priced-requires c = rises _ _ _ _ _ c.curve_faults-curve.ensures c.in_ok-option_rules.was c.option_rules.ensures (λ n. n.1.1.1.0)

pub returns-in_err-option_rules : goal.returns-in_err-option_rules
unfolding a_outcome
returns-in_err-option_rules c = priced _ (after_refusal _ (rw c.curve_faults-curve.ensures at c.in_err-option_rules.ensures) c.from_residual.ensures.1)

pub returns : goal.returns
unfolding a_outcome
returns c = priced _ (after_served _ (rw c.curve_faults-curve.ensures at c.in_ok-option_rules.ensures) c.a_priced.ensures)
