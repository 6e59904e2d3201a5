-- `calibrate_to_instruments` over a basket, on a curve of times xs and factors fs: "All fits run, then all bumped fits, 13 being met at each one's end; the first refusal refuses the basket."
use Rattle.std.specs.Prelude.{ℕ, ◌-◌, Bool, true, false, cond, List, [], ◌∷◌, ◌++◌, pos, length, replicate, Float, Ok, Err}
use Rattle.std.specs.Float.{binary64}
use Rattle.std.specs.Float.Ieee.{of_int}
use Rattle.std.specs.Float.Ieee.Scale.{finite}
use Rattle.ieee.specs.Rounded.{◌⊕◌, ◌⊖◌, ◌⊘◌}
use Rattle.ieee.specs.Decimal.{decimal}
use Rattle.ieee.specs.Numbers.{zero, one}
use Rattle.refusals.specs.declared.refusals.Refusal.TheVariants as R
use Rattle.refusals.specs.Refusals.{Outcome, unless, following}
use Rattle.math_bisection.specs.declared.result.Fit.{Fit}
use Rattle.fit.specs.Fits.{caplet_fitted}
use Rattle.basket_entries.specs.Entries.{Entry, entries_of, basket_rules_on}
use Rattle.basket.specs.declared.call.Basket.{Basket}

-- ---- one entry

-- an entry fitted by itself, at its quote or at another
abbrev pub fit_of : Float → List Float → List Float → Entry → Float → Outcome Fit
fit_of alpha xs fs e vol = caplet_fitted e.quote alpha xs fs e.strike e.start e.end vol

-- the bump, 1e-6
abbrev pub bump : Float
bump = decimal 1 6

-- (bumped - sigma)/1e-6
unfoldable pub diagonal_of : Float → Float → Float
diagonal_of bumped sigma = (bumped ⊖ sigma) ⊘ bump

-- a status as a number: 1 where the fit converged, 0 where it did not
abbrev pub status_of : Bool → Float
status_of true = one
status_of false = zero

-- the number of halvings as a float
abbrev pub count_of : ℕ → Float
count_of n = of_int binary64 (pos n)

-- ---- all fits, in the order given
pub record Records : Type 0 where
  pub sigmas : List Float
  pub statuses : List Float
  pub halvings : List Float
  pub residuals : List Float

abbrev pub no_records : Records
no_records = record { sigmas = []; statuses = []; halvings = []; residuals = [] }

abbrev pub with_fit : Fit → Records → Records
with_fit v rs = record { sigmas = v.sigma ∷ rs.sigmas; statuses = status_of v.converged ∷ rs.statuses; halvings = count_of v.halvings ∷ rs.halvings; residuals = v.residual ∷ rs.residuals }

unfoldable pub fits_of : Float → List Float → List Float → List Entry → Outcome Records
fits_of alpha xs fs [] = Ok no_records
fits_of alpha xs fs (e ∷ es) =
    following (fit_of alpha xs fs e e.vol) (λ v.
    following (fits_of alpha xs fs es) (λ rs. Ok (with_fit v rs)))

-- ---- then all bumped fits: each beside the sigma fitted
pub record Bumps : Type 0 where
  pub diagonal : List Float
  pub statuses : List Float

abbrev pub no_bumps : Bumps
no_bumps = record { diagonal = []; statuses = [] }

-- rule 13 looks at the diagonal's float too
unfoldable pub bump_of : Float → List Float → List Float → Entry → Float → Outcome Fit
bump_of alpha xs fs e sigma = following (fit_of alpha xs fs e (e.vol ⊕ bump)) (λ v. cond (finite (diagonal_of v.sigma sigma)) (Ok v) (Err R.Overflow))

abbrev pub with_bump : Float → Fit → Bumps → Bumps
with_bump sigma v bs = record { diagonal = diagonal_of v.sigma sigma ∷ bs.diagonal; statuses = status_of v.converged ∷ bs.statuses }

unfoldable pub bumps_of : Float → List Float → List Float → List Entry → List Float → Outcome Bumps
bumps_of alpha xs fs [] sigmas = Ok no_bumps
bumps_of alpha xs fs (e ∷ es) [] = Ok no_bumps
bumps_of alpha xs fs (e ∷ es) (sigma ∷ sigmas) =
    following (bump_of alpha xs fs e sigma) (λ v.
    following (bumps_of alpha xs fs es sigmas) (λ bs. Ok (with_bump sigma v bs)))

-- ---- the answer

-- "its answer carries 64 sigmas by value .. unused places 0"
abbrev pub padded : List Float → List Float
padded vs = vs ++ replicate (64 - length vs) zero

abbrev pub basket_from : ℕ → Records → Bumps → Basket
basket_from n rs bs = record {
  count = n;
  sigmas = padded rs.sigmas;
  statuses = padded rs.statuses;
  halvings = padded rs.halvings;
  residuals = padded rs.residuals;
  diagonal = padded bs.diagonal;
  bumped_statuses = padded bs.statuses;
}

-- beside a refusal's number: all fields 0
abbrev pub no_basket : Basket
no_basket = basket_from 0 no_records no_bumps

unfoldable pub fitted_basket : Float → List Float → List Float → List Entry → Outcome Basket
fitted_basket alpha xs fs es =
    following (fits_of alpha xs fs es) (λ rs.
    following (bumps_of alpha xs fs es rs.sigmas) (λ bs. Ok (basket_from (length es) rs bs)))

unfoldable pub basket_of : Float → List Float → List Float → List Bool → List Float → List Float → List Float → List Float → Outcome Basket
basket_of alpha xs fs ns ks ts ends vs = unless (basket_rules_on alpha xs fs ns ks ts ends vs) (fitted_basket alpha xs fs (entries_of ns ks ts ends vs))
