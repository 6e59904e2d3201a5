-- `fit_objective::objective::Objective::residual` meets its contract: the model's refusal, a NaN, or the residual. Assumes nothing.
use mathlib.Core.Path.{sym, ◌∙◌}
use Rattle.fit_objective.proofs.Residuals.{residual_refused, residual_nan, residual_there}
use Rattle.fit_objective.proofs.objective.Objective.residual.Goals as goal

pub returns-in_default : goal.returns-in_default
returns-in_default c = residual_refused c.args.self _ c.model_price-price.ensures c.in_default.is

pub returns-then-is_nan : goal.returns-then-is_nan
returns-then-is_nan c = residual_nan c.args.self _ (sym c.in-Ok.is ∙ c.model_price-price.ensures) c.if-is_nan.true

pub returns-else-is_nan : goal.returns-else-is_nan
returns-else-is_nan c = residual_there c.args.self _ (sym c.in-Ok.is ∙ c.model_price-price.ensures) c.if-is_nan.false
