-- The steps of `solve_of`, as the code takes them: one halving, and what follows the residual at 1e-8.
use Rattle.std.specs.Prelude.{cond, Float, Ok, Err}
use Rattle.math_elementary.specs.Simple.{midpoint_of}
use Rattle.refusals.specs.declared.refusals.Refusal.TheVariants as R
use Rattle.refusals.specs.Refusals.{Outcome, following}
use Rattle.math_bisection.specs.declared.halving.Ends.{Ends}
use Rattle.math_bisection.specs.declared.result.Fit.{Fit}
use Rattle.math_bisection.specs.Solve.{highest, same_sign, close_enough, residual_at, ends_moved_to, halvings_from, ends_of}
use Rattle.fit_solver.specs.declared.bisect.Turn.{Turn}
use Rattle.fit_solver.specs.declared.bisect.Turn.TheVariants as T

-- what a residual at the midpoint sigma makes of the ends
abbrev pub turned : Ends → Float → Float → Turn
turned e sigma v = cond (close_enough v) (T.Converged sigma v) (T.Moved (ends_moved_to e sigma v))

unfoldable pub turn_at : (Float → Outcome Float) → Ends → Outcome Turn
turn_at f e = let sigma = midpoint_of e.low e.high in following (residual_at f sigma) (λ v. Ok (turned e sigma v))

unfoldable pub solve_above : (Float → Outcome Float) → Float → Outcome Fit
solve_above f a = following (residual_at f highest) (λ b. cond (same_sign a b) (Err R.NoSignChange) (halvings_from f 200 0 (ends_of a b)))
