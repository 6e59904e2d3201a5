-- `fit_solver::bisect::solve_above` meets its contract: a refusal at 2.0, residuals of one sign, or the halvings. Assumes nothing.
use mathlib.Core.Path.{◌∙◌}
use Rattle.fit_solver.proofs.Residuals.{above_refused, above_alike, above_apart}
use Rattle.fit_solver.proofs.bisect.solve_above.Goals as goal

pub returns-in_err-high_residual : goal.returns-in_err-high_residual
returns-in_err-high_residual c = above_refused _ _ c.in_err-high_residual.ensures c.from_residual.ensures.1

pub returns-then-same_sign : goal.returns-then-same_sign
returns-then-same_sign c = above_alike _ _ c.in_ok-high_residual.ensures c.same_sign.ensures c.if-same_sign.true

pub returns : goal.returns
returns c = c.halvings.ensures ∙ above_apart _ _ c.in_ok-high_residual.ensures c.same_sign.ensures c.if-same_sign.false
