-- Demand 3 of kinds 6 and 7: no accepted swaption rests on a lost root. The sums are those of the very terms priced, and the facts concern the rate before the Newton step, which is returned beside the stepped one.
use Rattle.std.specs.Prelude.{◌≡◌, List, Float, ◌↔◌, Ok, Err}
use Rattle.ieee.specs.Numbers.{zero}
use Rattle.refusals.specs.declared.refusals.Refusal.TheVariants as R
use Rattle.refusals.specs.Refusals.{Outcome}
use Rattle.hullwhite_formulas.specs.HullWhite.{forward_of}
use Rattle.hullwhite_parameters.specs.Variance.{piecewise_variance_of}
use Rattle.search_sum.specs.Sum.{coupon_sum}
use Rattle.hullwhite_terms.specs.Terms.{coefficients_of, bs_of}
use Rattle.hullwhite_terms.specs.Begun.{RootFound, WantsBracket}
use Rattle.pricer_formulas.specs.Affine.{affine_aList_of}
use Rattle.pricer_value.specs.declared.value.Valuation.{Valuation}
use Rattle.pricer.specs.Pricer.{pricer_rules_on}

-- the priced coupon sum, as a function of the rate, of a swaption whose factors at t, t + h and the payment times are pt, p_plus and ps
abbrev pub pricer_sum_of : Float → List Float → List Float → Float → List Float → List Float → Float → Float → Float → List Float → Float → Float
pricer_sum_of alpha pls ss t payments accruals strike pt p_plus ps =
    let bs = bs_of alpha t payments in
    coupon_sum (coefficients_of strike accruals) (affine_aList_of (piecewise_variance_of alpha pls ss zero t) (forward_of pt p_plus) pt bs ps) bs

module _ (alpha : Float) (pls ss ts fs payments accruals owns : List Float) (strike t notional side : Float) where
  -- an accepted answer: its root is located among the sums of the terms priced
  abbrev pub PricerRootLocated : Outcome Valuation → Type 0
  PricerRootLocated r = (v : Valuation) → r ≡ Ok v → RootFound (pricer_rules_on alpha pls ss ts fs payments accruals owns strike t notional side) ts fs payments t (pricer_sum_of alpha pls ss t payments accruals strike) v.root

  -- "no call is refused so on any other ground"
  abbrev pub PricerNoBracketExactly : Outcome Valuation → Type 0
  PricerNoBracketExactly r = (r ≡ Err R.NoBracket) ↔ WantsBracket (pricer_rules_on alpha pls ss ts fs payments accruals owns strike t notional side) ts fs payments t (pricer_sum_of alpha pls ss t payments accruals strike)
