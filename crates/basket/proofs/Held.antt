-- Demand 3 of one entry, of the definitions: a fit that is served is assured, its halvings are at most 200, and none is refused for want of a bracket. Assumes nothing.
use Rattle.std.specs.Prelude.{Option, Some, None, Ok, Err}
use mathlib.Core.Path.{◌≡◌, refl, sym, ap}
use mathlib.Core.Logic.{⊎_elim}
use mathlib.Core.List.{List}
use Prim.Native.Nat.{ℕ, ◌≤◌}
use native.Mathlib.Omega.{arith}
use native.Mathlib.Nat.{le_of_eq, le_trans}
use lib.Dec.{T, lit≤, le→leb}
use lib.IntN.{pos}
use lib.Ieee.{Float, binary64, in_float}
use Rattle.refusals.specs.declared.refusals.Refusal.TheVariants as R
use Rattle.refusals.specs.Refusals.{Outcome, answer_number, answer_of, following}
use Rattle.curve.specs.Lookups.{factor_at, needing}
use Rattle.refusals.proofs.Outcomes.{not_both}
use Rattle.math_bisection.specs.declared.result.Fit.{Fit}
use Rattle.math_bisection.specs.Result.{finishing_fit}
use Rattle.math_bisection.specs.Solve.{solve_of}
use Rattle.math_bisection.specs.Demand3.{Assured}
use Rattle.math_bisection.proofs.Demand3.{demand3}
use Rattle.fit_objective.specs.declared.market.VolatilityType.{VolatilityType}
use Rattle.fit_objective.specs.Objective.{caplet_objective}
use Rattle.fit_objective.proofs.Finished.{finished_served, finished_wanting}
use Rattle.fit.specs.Fits.{caplet_fitted}
use Rattle.basket_entries.specs.Entries.{Entry}
use Rattle.basket.specs.Basket.{fit_of}
use Rattle.basket.specs.Demand3.{EntryFitHolds}

module _ (alpha : Float) (xs fs : List Float) (e : Entry) (vol : Float) where
  abbrev pub objective : Float → Float → Float → Outcome Float
  objective pt p_s = caplet_objective e.quote alpha e.strike e.start e.end vol pt p_s

  -- a fit that is begun: both factors were found
  pub record Begun (o : Outcome Fit) : Type 0 where
    pub pt : Float
    pub p_s : Float
    pub at_start : factor_at xs fs e.start ≡ Some pt
    pub at_end : factor_at xs fs e.end ≡ Some p_s
    pub goes_on : following (solve_of (objective pt p_s)) finishing_fit ≡ o

  pub begun : (o : Outcome Fit) → (Err R.OffCurve ≡ o → ⊥) → fit_of alpha xs fs e vol ≡ o → Begun o
  unfolding caplet_fitted
  begun o late h = go (factor_at xs fs e.start) (factor_at xs fs e.end) refl refl h
    where
      go : (m n : Option Float) → factor_at xs fs e.start ≡ m → factor_at xs fs e.end ≡ n → needing m (λ pt. needing n (λ p_s. following (solve_of (objective pt p_s)) finishing_fit)) ≡ o → Begun o
      go (Some pt) (Some p_s) p q k = record { pt = pt; p_s = p_s; at_start = p; at_end = q; goes_on = k }
      go (Some pt) None p q k = absurd (late k)
      go None n p q k = absurd (late k)

  pub assured : (fit : Fit) (b : Begun (Ok fit)) → Assured (objective b.pt b.p_s) fit
  assured fit b = demand3.assured (objective b.pt b.p_s) fit (finished_served (solve_of (objective b.pt b.p_s)) fit b.goes_on)

  abbrev pub fit_held : (fit : Fit) → fit_of alpha xs fs e vol ≡ Ok fit → EntryFitHolds alpha xs fs e vol
  fit_held fit h =
      let b = begun (Ok fit) not_both h in
      record { fit = fit; is = h; pt = b.pt; p_s = b.p_s; at_start = b.at_start; at_end = b.at_end; assured = assured fit b }

  halvings_within : (fit : Fit) → fit_of alpha xs fs e vol ≡ Ok fit → fit.halvings ≤ 200
  halvings_within fit h = ⊎_elim (λ c. c.within) (λ u. le_of_eq u.number) (assured fit (begun (Ok fit) not_both h)).root

  -- a caplet's objective is never refused
  never : (pt p_s sigma : Float) → objective pt p_s sigma ≡ Err R.NoBracket → ⊥
  unfolding caplet_objective
  never pt p_s sigma k = not_both (sym k)

  pub fit_never_so : fit_of alpha xs fs e vol ≡ Err R.NoBracket → ⊥
  fit_never_so h =
      let b = begun (Err R.NoBracket) (λ z. let y = ap (λ x. answer_number (answer_of x)) z in omega arith) h in
      let w = (demand3.no_bracket (objective b.pt b.p_s)).0 (finished_wanting (solve_of (objective b.pt b.p_s)) b.goes_on) in
      never b.pt b.p_s w.sigma w.there

-- so its halvings are a number that a float holds
pub halvings_in : (quote : VolatilityType) (alpha : Float) (xs fs : List Float) (strike t S vol : Float) (fit : Fit) → caplet_fitted quote alpha xs fs strike t S vol ≡ Ok fit → fit.halvings ≤ 200
halvings_in quote alpha xs fs strike t S vol fit h = halvings_within alpha xs fs (record { quote = quote; strike = strike; start = t; end = S; vol = vol }) vol fit h

pub in_float_lem : (n : ℕ) → n ≤ 200 → T (in_float binary64 (pos n))
unfolding in_float
in_float_lem n h = le→leb _ _ (le_trans h (lit≤ tt))
