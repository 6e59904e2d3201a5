-- The critical-rate search behind a swaption's objective at a sigma: where the objective is served its root is located, and it is refused for want of a bracket exactly where the search has none. Assumes nothing.
use Rattle.std.specs.Prelude.{Ok, Err}
use mathlib.Core.Path.{◌≡◌, refl, sym, ap, subst}
use mathlib.Core.List.{List}
use lib.Ieee.{Float}
use Rattle.ieee.specs.Rounded.{◌⊖◌}
use Rattle.refusals.specs.declared.refusals.Refusal.TheVariants as R
use Rattle.refusals.specs.Refusals.{Outcome, following}
use Rattle.refusals.proofs.Outcomes.{not_both, served_is}
use Rattle.hullwhite_formulas.specs.HullWhite.{forward_of}
use Rattle.search.specs.declared.Root.{Root}
use Rattle.search.specs.Reached.{Unbracketed}
use Rattle.search.specs.Facts.{Located}
use Rattle.hullwhite_terms.proofs.Callers.{root_located, wants_bracket, no_bracket}
use Rattle.hullwhite_terms.specs.Terms.{coefficients_of}
use Rattle.hullwhite_jamshidian.specs.declared.price.Swaption.{Swaption}
use Rattle.hullwhite_jamshidian.specs.Price.{puts_of, price_at}
use Rattle.hullwhite_jamshidian.specs.PricedSum.{model_sum_of}
use Rattle.fit_objective.specs.declared.market.VolatilityType.{VolatilityType}
use Rattle.fit_objective.specs.Market.{swaption_market_price_of}
use Rattle.fit_objective.specs.Objective.{value_alone, swaption_objective}

module _ (quote : VolatilityType) (alpha : Float) (payments accruals : List Float) (strike t vol pt p_plus : Float) (ps : List Float) (sigma : Float) where
  sum : Float → Float
  sum = model_sum_of alpha t payments accruals strike sigma pt p_plus ps

  valued_at : Root → Outcome Swaption
  valued_at root = Ok (record { value = puts_of alpha t sigma (forward_of pt p_plus) pt root.rate (coefficients_of strike accruals) payments ps; root = root })

  abbrev price : Outcome Swaption
  price = price_at alpha payments accruals strike t pt p_plus ps sigma

  abbrev objective : Outcome Float
  objective = swaption_objective quote alpha payments accruals strike t vol pt p_plus ps sigma

  -- the price where the objective is served, and its root
  pub value_there : {x : Float} → objective ≡ Ok x → (v : Swaption) × (price ≡ Ok v)
  unfolding swaption_objective
  value_there {x} e = go price refl e
    where
      go : (o : Outcome Swaption) → price ≡ o → following (value_alone o) (λ model. Ok (model ⊖ swaption_market_price_of quote strike t vol accruals pt ps)) ≡ Ok x → (v : Swaption) × (price ≡ Ok v)
      go (Ok v) p k = (v, p)
      go (Err q) p k = absurd (not_both k)

  pub root_there : (v : Swaption) → price ≡ Ok v → Located (model_sum_of alpha t payments accruals strike sigma pt p_plus ps) v.root
  unfolding price_at sum valued_at
  root_there v e =
      let r = root_located sum valued_at v e in
      subst (Located sum) (ap (λ (u : Swaption). u.root) (served_is r.2)) r.1

  -- refused for want of a bracket exactly where the search has none
  pub want_there : objective ≡ Err R.NoBracket → price ≡ Err R.NoBracket
  unfolding swaption_objective
  want_there e = go price e
    where
      go : (o : Outcome Swaption) → following (value_alone o) (λ model. Ok (model ⊖ swaption_market_price_of quote strike t vol accruals pt ps)) ≡ Err R.NoBracket → o ≡ Err R.NoBracket
      go (Ok v) k = absurd (not_both (sym k))
      go (Err q) k = let z : q ≡ R.NoBracket = cc in ap Err z

  pub unbracketed_there : price ≡ Err R.NoBracket → Unbracketed (model_sum_of alpha t payments accruals strike sigma pt p_plus ps)
  unfolding price_at sum valued_at
  unbracketed_there e = wants_bracket sum valued_at (λ v k. not_both (sym k)) e

  pub bracket_wanted : Unbracketed (model_sum_of alpha t payments accruals strike sigma pt p_plus ps) → objective ≡ Err R.NoBracket
  unfolding swaption_objective price_at sum valued_at
  bracket_wanted u =
      let e : price ≡ Err R.NoBracket = no_bracket sum valued_at u in
      ap (λ (o : Outcome Swaption). following (value_alone o) (λ model. Ok (model ⊖ swaption_market_price_of quote strike t vol accruals pt ps))) e
