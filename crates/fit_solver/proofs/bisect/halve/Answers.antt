-- `fit_solver::bisect::halve` meets its contract: a refusal, a residual that is close enough, or ends that are moved. Assumes nothing.
use Rattle.fit_solver.proofs.Residuals.{halve_refused, halve_converged, halve_moved}
use Rattle.fit_solver.proofs.bisect.halve.Goals as goal

pub returns-in_err-residual : goal.returns-in_err-residual
returns-in_err-residual c = halve_refused _ _ c.midpoint-sigma.ensures c.in_err-residual.ensures c.from_residual.ensures.1

pub returns-then-is_close : goal.returns-then-is_close
returns-then-is_close c = halve_converged _ _ c.midpoint-sigma.ensures c.in_ok-residual.ensures c.is_close.ensures c.if-is_close.true

pub returns-else-is_close : goal.returns-else-is_close
returns-else-is_close c = halve_moved _ _ c.midpoint-sigma.ensures c.in_ok-residual.ensures c.is_close.ensures c.if-is_close.false c.moved.ensures
