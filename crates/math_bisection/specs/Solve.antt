-- `Bisection::solve` from 1e-8 to 2.0, of any objective f: what it gives at a sigma, or why it is refused there. Document 01: "A fit's residual at a sigma is the objective there".
use Rattle.std.specs.Prelude.{ℕ, zero, suc, Bool, true, false, cond, Float, Ok, Err}
use Rattle.std.specs.Float.Ieee.{eq, lt, is_nan}
use Rattle.ieee.specs.Decimal.{decimal}
use Rattle.math_elementary.specs.Simple.{midpoint_of, signum_of, abs_of}
use Rattle.refusals.specs.declared.refusals.Refusal.TheVariants as R
use Rattle.refusals.specs.Refusals.{Outcome, following}
use Rattle.math_bisection.specs.declared.halving.Ends.{Ends}
use Rattle.math_bisection.specs.declared.result.Fit.{Fit}

abbrev pub lowest : Float
lowest = decimal 1 8

abbrev pub highest : Float
highest = decimal 2 0

-- the tolerance, 1e-12
abbrev pub tolerance : Float
tolerance = decimal 1 12

-- "Two residuals differ in sign when their signums do." Never a product: +0 and -0 differ
abbrev pub same_sign : Float → Float → Bool
same_sign x y = eq (signum_of x) (signum_of y)

-- "residual is below 1e-12 in size"
abbrev pub close_enough : Float → Bool
close_enough residual = lt (abs_of residual) tolerance

-- rule 9: "a fit residual that is reached is NaN"
unfoldable pub residual_at : (Float → Outcome Float) → Float → Outcome Float
residual_at f sigma = following (f sigma) (λ v. cond (is_nan v) (Err R.NanReached) (Ok v))

-- the midpoint sigma and its residual are put for the lower end where the signs are the same there, else for the upper one
unfoldable pub ends_moved_to : Ends → Float → Float → Ends
ends_moved_to e sigma residual =
    cond (same_sign residual e.low_residual) (record { low = sigma; high = e.high; low_residual = residual; high_residual = e.high_residual })
    (record { low = e.low; high = sigma; low_residual = e.low_residual; high_residual = residual })

-- the midpoint of the last ends with its residual, unconverged: halvings "200 if unconverged"
unfoldable pub unconverged_at : (Float → Outcome Float) → Ends → Outcome Fit
unconverged_at f e = let sigma = midpoint_of e.low e.high in following (residual_at f sigma) (λ v. Ok (record { sigma = sigma; converged = false; halvings = 200; residual = v; ends = e }))

-- `left` halvings from the ends e, `made` having been made: "A converged fit returns the midpoint whose residual is below 1e-12 in size", and the last two ends are those it was taken from
unfoldable pub halvings_from : (Float → Outcome Float) → ℕ → ℕ → Ends → Outcome Fit
halvings_from f zero made e = unconverged_at f e
halvings_from f (suc left) made e =
    let sigma = midpoint_of e.low e.high in
    following (residual_at f sigma) (λ v. cond (close_enough v) (Ok (record { sigma = sigma; converged = true; halvings = suc made; residual = v; ends = e })) (halvings_from f left (suc made) (ends_moved_to e sigma v)))

abbrev pub ends_of : Float → Float → Ends
ends_of a b = record { low = lowest; high = highest; low_residual = a; high_residual = b }

-- "from 1e-8 to 2.0, 200 halvings"; 12: "The residuals at 1e-8 and 2.0 have equal signum"
unfoldable pub solve_of : (Float → Outcome Float) → Outcome Fit
solve_of f =
    following (residual_at f lowest) (λ a.
    following (residual_at f highest) (λ b.
    cond (same_sign a b) (Err R.NoSignChange) (halvings_from f 200 0 (ends_of a b))))
