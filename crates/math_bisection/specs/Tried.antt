-- The sigmas that a fit tries, in order: 1e-8, 2.0, and the midpoints, up to the one that converges or is refused; an unconverged fit tries the midpoint of its last ends besides.
use Rattle.std.specs.Prelude.{ℕ, zero, suc, cond, List, [], ◌∷◌, Float, Ok, Err}
use Rattle.math_elementary.specs.Simple.{midpoint_of}
use Rattle.refusals.specs.Refusals.{Outcome}
use Rattle.math_bisection.specs.declared.halving.Ends.{Ends}
use Rattle.math_bisection.specs.Solve.{lowest, highest, same_sign, close_enough, residual_at, ends_moved_to, ends_of}

-- what is tried after a residual; nothing after a refusal
abbrev pub onward : Outcome Float → (Float → List Float) → List Float
onward (Ok v) rest = rest v
onward (Err r) rest = []

unfoldable pub tried_from : (Float → Outcome Float) → ℕ → Ends → List Float
tried_from f zero e = midpoint_of e.low e.high ∷ []
tried_from f (suc left) e =
    let sigma = midpoint_of e.low e.high in
    sigma ∷ onward (residual_at f sigma) (λ v. cond (close_enough v) [] (tried_from f left (ends_moved_to e sigma v)))

unfoldable pub tried_of : (Float → Outcome Float) → List Float
tried_of f =
    lowest ∷ onward (residual_at f lowest) (λ a.
    highest ∷ onward (residual_at f highest) (λ b.
    cond (same_sign a b) [] (tried_from f 200 (ends_of a b))))
