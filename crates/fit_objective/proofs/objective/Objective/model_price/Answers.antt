-- `fit_objective::objective::Objective::model_price` meets its contract: each arm is what `model_price_of` says of its instrument. Assumes nothing.
use Rattle.std.specs.Prelude.{Ok}
use mathlib.Core.Path.{ap, ◌∙◌}
use Rattle.refusals.proofs.Outcomes.{handed_on}
use Rattle.fit_objective.specs.Objective.{value_alone}
use Rattle.fit_objective.specs.Ahead.{model_price_of}
use Rattle.fit_objective.proofs.objective.Objective.model_price.Goals as goal

pub returns-in-Caplet : goal.returns-in-Caplet
unfolding model_price_of
returns-in-Caplet c = rw c.in-Caplet.is (ap Ok c.caplet_at.ensures)

pub returns-in_err-swaption-in-Swaption : goal.returns-in_err-swaption-in-Swaption
unfolding model_price_of
returns-in_err-swaption-in-Swaption c =
    handed_on c.from_residual.ensures.1 ∙ rw c.in-Swaption.is (ap value_alone c.in_err-swaption-in-Swaption.ensures)

pub returns-in_ok-swaption-in-Swaption : goal.returns-in_ok-swaption-in-Swaption
unfolding model_price_of
returns-in_ok-swaption-in-Swaption c = rw c.in-Swaption.is (ap value_alone c.in_ok-swaption-in-Swaption.ensures)
