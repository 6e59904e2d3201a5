-- Demand 3 of kind 5: no accepted swaption with coupons rests on a lost root. The sums are those of the very terms priced.
use Rattle.std.specs.Prelude.{◌≡◌, List, ◌<◌, length, Float, ◌↔◌, Ok, Err}
use Rattle.refusals.specs.declared.refusals.Refusal.TheVariants as R
use Rattle.refusals.specs.Refusals.{Outcome}
use Rattle.hullwhite_terms.specs.Begun.{RootFound, WantsBracket}
use Rattle.hullwhite_jamshidian.specs.declared.price.Swaption.{Swaption}
use Rattle.hullwhite_jamshidian.specs.PricedSum.{model_sum_of}
use Rattle.hullwhite_swaptions.specs.Model.{model_rules_on}

module _ (alpha : Float) (ts fs payments accruals : List Float) (strike t sigma : Float) where
  -- an answer that is accepted with coupons: its root is located among the sums of the terms priced
  abbrev pub ModelRootLocated : Outcome Swaption → Type 0
  ModelRootLocated r = (v : Swaption) → r ≡ Ok v → 0 < length payments → RootFound (model_rules_on alpha ts fs payments accruals strike t sigma) ts fs payments t (model_sum_of alpha t payments accruals strike sigma) v.root

  -- "no call is refused so on any other ground": a search is begun where there are coupons
  abbrev pub ModelNoBracketExactly : Outcome Swaption → Type 0
  ModelNoBracketExactly r = (r ≡ Err R.NoBracket) ↔ ((0 < length payments) × WantsBracket (model_rules_on alpha ts fs payments accruals strike t sigma) ts fs payments t (model_sum_of alpha t payments accruals strike sigma))
