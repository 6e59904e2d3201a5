-- `fit_solver::bisect::solve` meets its contract: a refusal at 1e-8, or what follows the residual there. Assumes nothing.
use mathlib.Core.Path.{◌∙◌}
use Rattle.fit_solver.proofs.Residuals.{start_refused, start_goes_on}
use Rattle.fit_solver.proofs.bisect.solve.Goals as goal

pub returns-in_err-low_residual : goal.returns-in_err-low_residual
returns-in_err-low_residual c = start_refused _ c.in_err-low_residual.ensures c.from_residual.ensures.1

pub returns : goal.returns
returns c = c.solve_above.ensures ∙ start_goes_on _ c.in_ok-low_residual.ensures
