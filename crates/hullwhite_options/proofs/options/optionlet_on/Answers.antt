-- `hullwhite_options::optionlet_on` meets its contract: turned down by its rules, or what `optionlet_priced` finds. Assumes nothing.
use Rattle.hullwhite_options.specs.Options.{optionlet_outcome}
use Rattle.refusals.proofs.Outcomes.{priced, after_refusal, after_served}
use Rattle.refusals.proofs.Refusing.{rises}
use Rattle.hullwhite_options.proofs.options.optionlet_on.Goals as goal

pub optionlet_priced-requires : goal.optionlet_priced-requires
optionlet_priced-requires c = rises _ _ _ _ _ c.requires c.in_ok-option_rules.was c.option_rules.ensures (λ n. n.1.1.1.0)

pub returns-in_err-option_rules : goal.returns-in_err-option_rules
unfolding optionlet_outcome
returns-in_err-option_rules c = priced _ (after_refusal _ (rw c.requires at c.in_err-option_rules.ensures) c.from_residual.ensures.1)

pub returns : goal.returns
unfolding optionlet_outcome
returns c = priced _ (after_served _ (rw c.requires at c.in_ok-option_rules.ensures) c.optionlet_priced.ensures)
