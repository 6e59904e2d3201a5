-- Demand 3 of a basket, entry by entry: what stands in each place is of a fit, and of a bumped fit, that is "held to the same facts as any other".
use Rattle.std.specs.Prelude.{◌≡◌, Bool, List, ◌∷◌, ◌++◌, ℕ, length, get_or, Float, Some, Ok, Err}
use Rattle.ieee.specs.Rounded.{◌⊕◌}
use Rattle.ieee.specs.Numbers.{zero}
use Rattle.refusals.specs.declared.refusals.Refusal.TheVariants as R
use Rattle.refusals.specs.Refusals.{Outcome}
use Rattle.curve.specs.Lookups.{factor_at}
use Rattle.math_bisection.specs.declared.result.Fit.{Fit}
use Rattle.math_bisection.specs.Demand3.{Assured}
use Rattle.fit_objective.specs.Objective.{caplet_objective}
use Rattle.basket_entries.specs.Entries.{Entry, entries_of}
use Rattle.basket.specs.declared.call.Basket.{Basket}
use Rattle.basket.specs.Basket.{fit_of, bump, status_of, count_of, diagonal_of}

-- an entry's fit at a quoted volatility
pub record EntryFitHolds (alpha : Float) (xs fs : List Float) (e : Entry) (vol : Float) : Type 0 where
  pub fit : Fit
  pub is : fit_of alpha xs fs e vol ≡ Ok fit
  pub pt : Float
  pub p_s : Float
  pub at_start : factor_at xs fs e.start ≡ Some pt
  pub at_end : factor_at xs fs e.end ≡ Some p_s
  pub assured : Assured (caplet_objective e.quote alpha e.strike e.start e.end vol pt p_s) fit

-- place i of a served basket, which is of the entry e
pub record PlaceHolds (alpha : Float) (xs fs : List Float) (b : Basket) (i : ℕ) (e : Entry) : Type 0 where
  pub first : EntryFitHolds alpha xs fs e e.vol
  pub sigma_is : get_or b.sigmas i zero ≡ first.fit.sigma
  pub status_is : get_or b.statuses i zero ≡ status_of first.fit.converged
  pub halvings_are : get_or b.halvings i zero ≡ count_of first.fit.halvings
  pub residual_is : get_or b.residuals i zero ≡ first.fit.residual
  pub bumped : EntryFitHolds alpha xs fs e (e.vol ⊕ bump)
  pub diagonal_is : get_or b.diagonal i zero ≡ diagonal_of bumped.fit.sigma first.fit.sigma
  pub bumped_status_is : get_or b.bumped_statuses i zero ≡ status_of bumped.fit.converged

-- every place of a served basket
abbrev pub BasketHolds : Float → List Float → List Float → List Bool → List Float → List Float → List Float → List Float → Outcome Basket → Type 0
BasketHolds alpha xs fs ns ks ts ends vs r =
    (basket : Basket) → r ≡ Ok basket → (before : List Entry) (e : Entry) (behind : List Entry) → entries_of ns ks ts ends vs ≡ before ++ (e ∷ behind) → PlaceHolds alpha xs fs basket (length before) e

-- a basket of caplets has no search, so it is never refused for want of a bracket
abbrev pub BasketNeverNoBracket : Outcome Basket → Type 0
BasketNeverNoBracket r = r ≡ Err R.NoBracket → ⊥
