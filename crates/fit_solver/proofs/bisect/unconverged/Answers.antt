-- `fit_solver::bisect::unconverged` meets its contract: the residual at the midpoint, or its refusal. Assumes nothing.
use Rattle.fit_solver.proofs.Residuals.{unconverged_refused, unconverged_there}
use Rattle.fit_solver.proofs.bisect.unconverged.Goals as goal

pub returns-in_err-residual : goal.returns-in_err-residual
returns-in_err-residual c = unconverged_refused _ _ c.midpoint-sigma.ensures c.in_err-residual.ensures c.from_residual.ensures.1

pub returns : goal.returns
returns c = unconverged_there _ _ c.midpoint-sigma.ensures c.in_ok-residual.ensures
