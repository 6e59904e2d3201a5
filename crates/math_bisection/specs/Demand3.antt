-- Demand 3 of a fit, of any objective f: "An accepted fit is converged with |residual| < 1e-12 at its sigma, or unconverged with last ends that have no f64 between them and residuals of different sign."
use Rattle.std.specs.Prelude.{◌≡◌, ◌⊎◌, ◌↔◌, true, false, not, cond, ℕ, suc, ◌+◌, ◌≤◌, T, length, get_or, Float, Ok, Err}
use mathlib.Core.List.{Memᴰ}
use Rattle.std.specs.Float.{binary64, nan}
use Rattle.std.specs.Float.Ieee.{is_nan, le}
use Rattle.math_elementary.specs.Simple.{midpoint_of}
use Rattle.refusals.specs.declared.refusals.Refusal.TheVariants as R
use Rattle.refusals.specs.Refusals.{Outcome}
use Rattle.search.specs.Line.{Neighbours}
use Rattle.search.specs.Halving.{Halvings}
use Rattle.math_bisection.specs.declared.result.Fit.{Fit}
use Rattle.math_bisection.specs.Solve.{lowest, highest, same_sign, close_enough, solve_of}
use Rattle.math_bisection.specs.Tried.{tried_of}

-- "a rung number fixes the rate it names, a halving the rate returned": sigma is the midpoint that halving `halvings` of the ends 1e-8 and 2.0 tried
pub record Converged (fit : Fit) : Type 0 where
  pub status : fit.converged ≡ true
  pub close : T (close_enough fit.residual)
  pub before : ℕ
  pub number : fit.halvings ≡ suc before
  pub within : fit.halvings ≤ 200
  pub halved : Halvings before lowest highest fit.ends.low fit.ends.high

-- "an unconverged one's last ends are those after halving 200"
pub record Unconverged (fit : Fit) : Type 0 where
  pub status : fit.converged ≡ false
  pub number : fit.halvings ≡ 200
  pub halved : Halvings 200 lowest highest fit.ends.low fit.ends.high
  pub neighbours : Neighbours binary64 fit.ends.low fit.ends.high

-- which of the sigmas tried is the one returned, counted from 0: 1e-8 and 2.0 are entries 0 and 1, so halving n tries entry 1 + n, and the midpoint of the ends after halving 200 is entry 202
abbrev pub entry_of : Fit → ℕ
entry_of fit = cond fit.converged (1 + fit.halvings) (2 + fit.halvings)

-- a sigma at which the objective was served, and is no NaN
pub record Served (f : Float → Outcome Float) (sigma : Float) : Type 0 where
  pub residual : Float
  pub there : f sigma ≡ Ok residual
  pub number : T (not (is_nan residual))

pub record Assured (f : Float → Outcome Float) (fit : Fit) : Type 0 where
  -- the residual reported "is that at the sigma returned", and those of the ends are those at the ends
  pub at_sigma : f fit.sigma ≡ Ok fit.residual
  pub at_low : f fit.ends.low ≡ Ok fit.ends.low_residual
  pub at_high : f fit.ends.high ≡ Ok fit.ends.high_residual
  -- they are numbers, since a NaN's signum equals nothing; and they "differ in sign when their signums do"
  pub low_number : T (not (is_nan fit.ends.low_residual))
  pub high_number : T (not (is_nan fit.ends.high_residual))
  pub signs : T (not (same_sign fit.ends.low_residual fit.ends.high_residual))
  -- the ends are in order, and sigma is their midpoint, the last sigma tried
  pub order : T (le fit.ends.low fit.ends.high)
  pub middle : fit.sigma ≡ midpoint_of fit.ends.low fit.ends.high
  pub tried : Memᴰ fit.sigma (tried_of f)
  -- the number of halvings fixes it: it is that entry of the sigmas tried, and none is tried after it
  pub entry : get_or (tried_of f) (entry_of fit) nan ≡ fit.sigma
  pub last : length (tried_of f) ≡ suc (entry_of fit)
  pub root : Converged fit ⊎ Unconverged fit
  -- "at every sigma a fit tries" the objective was served
  pub every : (sigma : Float) → Memᴰ sigma (tried_of f) → Served f sigma

-- a sigma that was tried, at which the objective was refused for want of a bracket
pub record TriedUnbracketed (f : Float → Outcome Float) : Type 0 where
  pub sigma : Float
  pub tried : Memᴰ sigma (tried_of f)
  pub there : f sigma ≡ Err R.NoBracket

-- every fit, whatever its objective
pub record FitDemand3 : Type 1 where
  pub assured : (f : Float → Outcome Float) (fit : Fit) → solve_of f ≡ Ok fit → Assured f fit
  pub no_bracket : (f : Float → Outcome Float) → (solve_of f ≡ Err R.NoBracket) ↔ TriedUnbracketed f
  -- a fit rests on the sigmas that it tries and on nothing else: an objective that agrees there has the same fit, and tries the same sigmas
  pub same : (f g : Float → Outcome Float) → ((sigma : Float) → Memᴰ sigma (tried_of f) → f sigma ≡ g sigma) → (solve_of f ≡ solve_of g) × (tried_of f ≡ tried_of g)
