-- What the code takes apart on the way of a fit: a turn, the last midpoint and the two first sigmas, by their residuals. Assumes nothing.
use Rattle.std.specs.Prelude.{Ok, Err}
use Rattle.std.specs.Result.{IsErrAnd}
use mathlib.Core.Path.{◌≡◌, refl, sym, ap, ◌∙◌}
use mathlib.Core.Bool.{Bool, true, false}
use lib.Ieee.{Float, binary64, of_bits}
use Rattle.math_elementary.specs.Simple.{midpoint_of}
use Rattle.refusals.specs.declared.refusals.Refusal.{Refusal}
use Rattle.refusals.specs.declared.refusals.Refusal.TheVariants as R
use Rattle.refusals.specs.Refusals.{Outcome}
use Rattle.refusals.proofs.Outcomes.{handed_on}
use Rattle.math_bisection.specs.declared.halving.Ends.{Ends}
use Rattle.math_bisection.specs.declared.result.Fit.{Fit}
use Rattle.math_bisection.specs.Solve.{lowest, highest, same_sign, close_enough, residual_at, ends_moved_to, unconverged_at, halvings_from, ends_of, solve_of}
use Rattle.fit_solver.specs.declared.bisect.Turn.{Turn}
use Rattle.fit_solver.specs.declared.bisect.Turn.TheVariants as T
use Rattle.fit_solver.specs.Turn.{turn_at, solve_above}
use Rattle.fit_solver.proofs.Literals.{lowest_is, highest_is}

-- ---- a turn, and the last midpoint, by the residual there
module _ (f : Float → Outcome Float) (e : Ends) {sigma : Float} (s : sigma ≡ midpoint_of e.low e.high) where
  module _ {q : Refusal} (h : Err q ≡ residual_at f sigma) where
    pub halve_refused : {gave : Outcome Turn} → IsErrAnd gave (λ r. r ≡ q) → gave ≡ turn_at f e
    unfolding turn_at
    halve_refused i = handed_on i ∙ rw (← s, ← h)

    pub unconverged_refused : {gave : Outcome Fit} → IsErrAnd gave (λ r. r ≡ q) → gave ≡ unconverged_at f e
    unfolding unconverged_at
    unconverged_refused i = handed_on i ∙ rw (← s, ← h)

  module _ {v : Float} (h : Ok v ≡ residual_at f sigma) where
    pub halve_converged : {b : Bool} → b ≡ close_enough v → b ≡ true → Ok (T.Converged sigma v) ≡ turn_at f e
    unfolding turn_at
    halve_converged p q = rw (← s, ← h, sym p ∙ q)

    pub halve_moved : {b : Bool} {next : Ends} → b ≡ close_enough v → b ≡ false → next ≡ ends_moved_to e sigma v → Ok (T.Moved next) ≡ turn_at f e
    unfolding turn_at
    halve_moved p q m = rw (← s, ← h, sym p ∙ q, m) refl

    pub unconverged_there : Ok (record { sigma = sigma; converged = false; halvings = 200; residual = v; ends = e }) ≡ unconverged_at f e
    unfolding unconverged_at
    unconverged_there = rw (← s, ← h)

-- ---- the two first sigmas, which the code has as literals
abbrev first : Float
first = of_bits binary64 0x3e45_798e_e230_8c3a

abbrev second : Float
second = of_bits binary64 0x4000_0000_0000_0000

pub ends_are : (a b : Float) → record { low = first; high = second; low_residual = a; high_residual = b } ≡ ends_of a b
ends_are a b = λ i. record { low = lowest_is i; high = highest_is i; low_residual = a; high_residual = b }

module _ (f : Float → Outcome Float) {o : Outcome Float} where
  at_highest : o ≡ residual_at f second → residual_at f highest ≡ o
  at_highest h = sym (h ∙ ap (λ (x : Float). residual_at f x) highest_is)

  at_lowest : o ≡ residual_at f first → residual_at f lowest ≡ o
  at_lowest h = sym (h ∙ ap (λ (x : Float). residual_at f x) lowest_is)

module _ (f : Float → Outcome Float) where
  pub start_refused : {q : Refusal} {gave : Outcome Fit} → Err q ≡ residual_at f first → IsErrAnd gave (λ r. r ≡ q) → gave ≡ solve_of f
  unfolding solve_of
  start_refused h i = handed_on i ∙ rw (at_lowest f h)

  pub start_goes_on : {a : Float} → Ok a ≡ residual_at f first → solve_above f a ≡ solve_of f
  unfolding solve_of solve_above
  start_goes_on h = rw (at_lowest f h)

  pub above_refused : (a : Float) {q : Refusal} {gave : Outcome Fit} → Err q ≡ residual_at f second → IsErrAnd gave (λ r. r ≡ q) → gave ≡ solve_above f a
  unfolding solve_above
  above_refused a h i = handed_on i ∙ rw (at_highest f h)

  module _ (a : Float) {b : Float} {t : Bool} (h : Ok b ≡ residual_at f second) (p : t ≡ same_sign a b) where
    pub above_alike : t ≡ true → Err R.NoSignChange ≡ solve_above f a
    unfolding solve_above
    above_alike q = rw (at_highest f h, sym p ∙ q)

    pub above_apart : t ≡ false → halvings_from f 200 0 (record { low = first; high = second; low_residual = a; high_residual = b }) ≡ solve_above f a
    unfolding solve_above
    above_apart q = ap (λ (e : Ends). halvings_from f 200 0 e) (ends_are a b) ∙ rw (at_highest f h, sym p ∙ q) refl
