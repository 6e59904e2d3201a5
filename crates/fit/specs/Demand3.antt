-- Demand 3 of kinds 8 to 11: no accepted fit rests on a lost root, and in every critical-rate search at every sigma that a swaption's fit tries, the bracket facts hold.
use Rattle.std.specs.Prelude.{◌≡◌, ◌↔◌, Float, Some, Ok, Err}
use mathlib.Core.List.{List, Memᴰ}
use Rattle.refusals.specs.declared.refusals.Refusal.TheVariants as R
use Rattle.refusals.specs.Refusals.{Outcome, first_of}
use Rattle.curve.specs.Lookups.{factor_at}
use Rattle.refusals.specs.Faults.{curve_faults}
use Rattle.search.specs.Reached.{Unbracketed}
use Rattle.search.specs.Facts.{Located}
use Rattle.hullwhite_terms.specs.Begun.{Begun}
use Rattle.hullwhite_jamshidian.specs.declared.price.Swaption.{Swaption}
use Rattle.hullwhite_jamshidian.specs.Price.{price_at}
use Rattle.hullwhite_jamshidian.specs.PricedSum.{model_sum_of}
use Rattle.math_bisection.specs.declared.result.Fit.{Fit}
use Rattle.math_bisection.specs.Tried.{tried_of}
use Rattle.math_bisection.specs.Demand3.{Assured}
use Rattle.fit_objective.specs.declared.market.VolatilityType.{VolatilityType}
use Rattle.fit_objective.specs.Objective.{caplet_objective, swaption_objective}
use Rattle.fit.specs.Fits.{caplet_rules, swaption_rules_on}

-- ---- caplets
module _ (quote : VolatilityType) (alpha : Float) (ts fs : List Float) (strike t S vol : Float) where
  pub record CapletFitAssured (fit : Fit) : Type 0 where
    pub passed : first_of (caplet_rules (curve_faults ts fs) quote alpha strike t S vol) ≡ Ok tt
    pub pt : Float
    pub p_s : Float
    pub at_start : factor_at ts fs t ≡ Some pt
    pub at_end : factor_at ts fs S ≡ Some p_s
    pub assured : Assured (caplet_objective quote alpha strike t S vol pt p_s) fit

  abbrev pub CapletFitHolds : Outcome Fit → Type 0
  CapletFitHolds r = (fit : Fit) → r ≡ Ok fit → CapletFitAssured fit

  -- a caplet's fit has no search, so it is never refused for want of a bracket
  abbrev pub CapletFitNeverNoBracket : Outcome Fit → Type 0
  CapletFitNeverNoBracket r = r ≡ Err R.NoBracket → ⊥

-- ---- swaptions
module _ (quote : VolatilityType) (alpha : Float) (ts fs payments accruals : List Float) (strike t vol : Float) where
  -- a fit that is begun, and with it its searches, on "terms that rules 1 to 8 let through"
  abbrev pub FitBegun : Type 0
  FitBegun = Begun (swaption_rules_on quote alpha ts fs payments accruals strike t vol) ts fs payments t

  abbrev pub begun_objective : FitBegun → Float → Outcome Float
  begun_objective b = swaption_objective quote alpha payments accruals strike t vol b.pt b.p_plus b.ps

  -- the priced coupon sum at a sigma, as a function of the rate
  abbrev pub begun_sum_at : FitBegun → Float → Float → Float
  begun_sum_at b sigma = model_sum_of alpha t payments accruals strike sigma b.pt b.p_plus b.ps

  -- the search at a sigma: the price there rests on a root that is located
  pub record RootAt (b : FitBegun) (sigma : Float) : Type 0 where
    pub valued : Swaption
    pub price : price_at alpha payments accruals strike t b.pt b.p_plus b.ps sigma ≡ Ok valued
    pub located : Located (begun_sum_at b sigma) valued.root

  pub record SwaptionFitAssured (fit : Fit) : Type 0 where
    pub begun : FitBegun
    pub assured : Assured (begun_objective begun) fit
    -- "In every search, at every sigma a fit tries"
    pub every_search : (sigma : Float) → Memᴰ sigma (tried_of (begun_objective begun)) → RootAt begun sigma

  abbrev pub SwaptionFitHolds : Outcome Fit → Type 0
  SwaptionFitHolds r = (fit : Fit) → r ≡ Ok fit → SwaptionFitAssured fit

  -- refused for want of a bracket exactly when a search that the fit tries is: "no call is refused so on any other ground"
  pub record FitWantsBracket : Type 0 where
    pub begun : FitBegun
    pub sigma : Float
    pub tried : Memᴰ sigma (tried_of (begun_objective begun))
    pub unbracketed : Unbracketed (begun_sum_at begun sigma)

  abbrev pub SwaptionFitNoBracketExactly : Outcome Fit → Type 0
  SwaptionFitNoBracketExactly r = (r ≡ Err R.NoBracket) ↔ FitWantsBracket
