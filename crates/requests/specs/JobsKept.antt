-- Document 02, A.4: "Jobs served before keep their values." `crates/demand_order` has every call as its stages: its rules, the factors found at the times that it needs, what it works on them, and what it answers. Here the same stages stand on what document 01's rule 8 found: what they served is served still, the same value.
use Rattle.std.specs.Prelude.{◌≡◌, refl, true, List, [], ◌∷◌, ℕ, eqb, length, take, Float, Option, Some, None, Ok, Err}
use Rattle.std.proofs.Common.{◌∙◌}
use Rattle.std.specs.Float.Ieee.{lt}
use Rattle.ieee.specs.Rounded.{◌⊕◌}
use Rattle.ieee.specs.Numbers.{zero}
use Rattle.refusals.specs.declared.refusals.Refusal.TheVariants as R
use Rattle.refusals.specs.declared.refusals.Rule.{Rule}
use Rattle.refusals.specs.Refusals.{Outcome, first_of, after, following, prepend, finishing, Answer}
use Rattle.refusals.specs.Order.{none_applies}
use Rattle.refusals.specs.Checks.{in_order}
use Rattle.refusals.specs.Faults.{curve_faults, coupon_faults}
use Rattle.refusals.proofs.CurveLaws.{curve_rises}
use Rattle.refusals.proofs.Outcomes.{not_both}
use Rattle.curve.specs.Lookups.{factor_at, volatility_at, required, needing}
use Rattle.hullwhite_formulas.specs.HullWhite.{h, b_of, forward_of, a_of, zcb_price_of, zcb_price_volatility_of, optionlet_strike_of, optionlet_of}
use Rattle.hullwhite_options.specs.declared.options.OptionType.{OptionType}
use Rattle.hullwhite_options.specs.Rules.{option_rules}
use Rattle.hullwhite_options.specs.Options.{bond_option_of, bond_option_outcome, optionlet_outcome}
use Rattle.hullwhite_model.specs.Rules.{forward_rules, theta_rules}
use Rattle.hullwhite_model.specs.Curves as Curves
use Rattle.quotes.specs.Rules.{annuity_rules}
use Rattle.quotes.specs.Utils.{annuity_outcome}
use Rattle.hullwhite_transitions.specs.Written.{finishing_list}
use Rattle.hullwhite_points.specs.declared.walk.State.{State}
use Rattle.hullwhite_points.specs.declared.walk.Centre.{Centre}
use Rattle.hullwhite_points.specs.Path.{state_after, shift_of, start_state, path_from}
use Rattle.hullwhite_paths.specs.Generate.{starts_below, several_for, generate_outcome}
use Rattle.hullwhite_paths.proofs.Outcomes.{grid_fits}
use Rattle.hullwhite_terms.specs.Terms.{factors_at}
use Rattle.hullwhite_jamshidian.specs.declared.price.Swaption.{Swaption}
use Rattle.hullwhite_jamshidian.specs.Price.{finishing_swaption}
use Rattle.hullwhite_swaptions.specs.Model.{model_rules_on, model_outcome}
use Rattle.pricer_formulas.specs.declared.bond_option.SwaptionType.{SwaptionType}
use Rattle.pricer_value.specs.declared.value.Valuation.{Valuation}
use Rattle.pricer_value.specs.Value.{finishing_valuation}
use Rattle.pricer.specs.Pricer.{pricer_rules_on, pricer_outcome}
use Rattle.pricer.proofs.Outcomes.{lists_fit}
use Rattle.math_bisection.specs.declared.result.Fit.{Fit}
use Rattle.math_bisection.specs.Result.{finishing_fit}
use Rattle.fit_objective.specs.declared.market.VolatilityType.{VolatilityType}
use Rattle.fit_objective.specs.Market.{annuity_of}
use Rattle.fit.specs.Fits.{caplet_rules, swaption_rules_on, caplet_fit_outcome, swaption_fit_outcome}
use Rattle.basket_entries.specs.Entries.{Entry}
use Rattle.basket.specs.Basket.{bump, fit_of, bump_of}
use Rattle.demand_order.specs.Stages.{staged, Met}
use Rattle.demand_order.specs.Steps.{nth}
use Rattle.demand_order.specs.Calls.{theta_times, theta_on, path_rules_on}
use Rattle.demand_order.proofs.Calls.{optionlet_met, bond_option_met, a_met, zcb_met, forward_met, theta_met, annuity_met, path_met}
use Rattle.demand_order.specs.Searches.{model_times, model_valued, pricer_valued, caplet_solved, swaption_solved, finishing_bump}
use Rattle.demand_order.proofs.Searches.{model_met, pricer_met, caplet_fit_met, swaption_fit_met, entry_fit_met, entry_bump_met}
use Rattle.requests.specs.BetweenPoints.{listed_at, kept}

-- ---- the factors that document 01's rule found at the times that a call needs
unfoldable pub listed_all : List Float → List Float → List Float → Outcome (List Float)
listed_all ts fs [] = Ok []
listed_all ts fs (t ∷ times) = needing (listed_at ts fs t) (λ p. prepend p (listed_all ts fs times))

pub all_kept : (ts fs times : List Float) {ps : List Float} → in_order true ts ≡ true → listed_all ts fs times ≡ Ok ps → factors_at ts fs times ≡ Ok ps
unfolding listed_all factors_at
all_kept ts fs [] o e = e
all_kept ts fs (t ∷ times) {ps} o e = go (λ qs q. all_kept ts fs times {ps = qs} o q) (listed_at ts fs t) refl e
  where
    tail : (p : Float) (found : Outcome (List Float)) → listed_all ts fs times ≡ found → ((qs : List Float) → listed_all ts fs times ≡ Ok qs → factors_at ts fs times ≡ Ok qs) → prepend p found ≡ Ok ps → prepend p (factors_at ts fs times) ≡ Ok ps
    tail p (Ok qs) q later k = rw (later qs q) k
    tail p (Err r) q later k = absurd (not_both k)

    go : ((qs : List Float) → listed_all ts fs times ≡ Ok qs → factors_at ts fs times ≡ Ok qs) → (m : Option Float) → listed_at ts fs t ≡ m → needing m (λ p. prepend p (listed_all ts fs times)) ≡ Ok ps → needing (factor_at ts fs t) (λ p. prepend p (factors_at ts fs times)) ≡ Ok ps
    go later (Some p) q k = rw (kept ts fs t o q) (tail p (listed_all ts fs times) refl later k)
    go later None q k = absurd (not_both k)

-- ---- a call, from its stages
module _ {W B : Type 0} (rules : List Rule) (found old : Outcome (List Float)) (worked : List Float → Outcome W) (answered : W → Outcome B) where
  -- where all that the old lookups found is found still, what the call served is served still
  stages_kept : (first_of rules ≡ Ok tt → (ps : List Float) → old ≡ Ok ps → found ≡ Ok ps) → {o : Outcome B} {v : B} → Met rules found worked answered o → staged rules old worked answered ≡ Ok v → o ≡ Ok v
  stages_kept still {o} {v} m e = m.is ∙ go (first_of rules) refl old refl e
    where
      rest : Outcome (List Float) → Outcome B
      rest ps = following ps (λ qs. following (worked qs) answered)

      go : (a : Answer) → first_of rules ≡ a → (was : Outcome (List Float)) → old ≡ was → after a (rest was) ≡ Ok v → after a (rest found) ≡ Ok v
      go (Ok tt) q (Ok ps) l k = rw (still q ps l) k
      go (Ok tt) q (Err r) l k = absurd (not_both k)
      go (Err r) q was l k = absurd (not_both k)

module _ {W B : Type 0} (rules : List Rule) (ts fs times : List Float) (worked : List Float → Outcome W) (answered : W → Outcome B) where
  -- the call as it was before A.4
  abbrev pub as_listed : Outcome B
  as_listed = staged rules (listed_all ts fs times) worked answered

  pub job_kept : (first_of rules ≡ Ok tt → in_order true ts ≡ true) → {o : Outcome B} {v : B} → Met rules (factors_at ts fs times) worked answered o → as_listed ≡ Ok v → o ≡ Ok v
  job_kept rising = stages_kept rules (factors_at ts fs times) (listed_all ts fs times) worked answered (λ e ps. all_kept ts fs times {ps = ps} (rising e))

-- ---- kinds 1 and 2, 3 and 4
pub optionlet_kept : (option : OptionType) (alpha : Float) (ts fs : List Float) (strike t S sigma : Float) {v : Float}
    → as_listed (option_rules (curve_faults ts fs) alpha t S sigma strike) ts fs (t ∷ S ∷ [])
    (λ ps. Ok (optionlet_of strike t S (bond_option_of option (zcb_price_volatility_of alpha sigma t S) (optionlet_strike_of strike t S) (nth 0 ps) (nth 1 ps)))) finishing ≡ Ok v
    → optionlet_outcome option alpha ts fs strike t S sigma ≡ Ok v
optionlet_kept option alpha ts fs strike t S sigma = job_kept _ ts fs _ _ _ (λ e. curve_rises ts fs ((none_applies (option_rules (curve_faults ts fs) alpha t S sigma strike)).0 e).1.1.1.0) (optionlet_met option alpha ts fs strike t S sigma)

pub bond_option_kept : (option : OptionType) (alpha : Float) (ts fs : List Float) (t T strike sigma : Float) {v : Float}
    → as_listed (option_rules (curve_faults ts fs) alpha t T sigma strike) ts fs (t ∷ T ∷ [])
    (λ ps. Ok (bond_option_of option (zcb_price_volatility_of alpha sigma t T) strike (nth 0 ps) (nth 1 ps))) finishing ≡ Ok v
    → bond_option_outcome option alpha ts fs t T strike sigma ≡ Ok v
bond_option_kept option alpha ts fs t T strike sigma = job_kept _ ts fs _ _ _ (λ e. curve_rises ts fs ((none_applies (option_rules (curve_faults ts fs) alpha t T sigma strike)).0 e).1.1.1.0) (bond_option_met option alpha ts fs t T strike sigma)

-- ---- A, the bond's price, the forward rate, theta, the annuity
pub a_kept : (alpha : Float) (ts fs : List Float) (t T sigma : Float) {v : Float}
    → as_listed (option_rules (curve_faults ts fs) alpha t T sigma zero) ts fs (t ∷ T ∷ (t ⊕ h) ∷ [])
    (λ ps. Ok (a_of alpha t sigma (b_of alpha t T) (forward_of (nth 0 ps) (nth 2 ps)) (nth 0 ps) (nth 1 ps))) finishing ≡ Ok v
    → Curves.a_outcome alpha ts fs t T sigma ≡ Ok v
a_kept alpha ts fs t T sigma = job_kept _ ts fs _ _ _ (λ e. curve_rises ts fs ((none_applies (option_rules (curve_faults ts fs) alpha t T sigma zero)).0 e).1.1.1.0) (a_met alpha ts fs t T sigma)

pub zcb_kept : (alpha : Float) (ts fs : List Float) (r t T sigma : Float) {v : Float}
    → as_listed (option_rules (curve_faults ts fs) alpha t T sigma r) ts fs (t ∷ T ∷ (t ⊕ h) ∷ [])
    (λ ps. Ok (zcb_price_of (a_of alpha t sigma (b_of alpha t T) (forward_of (nth 0 ps) (nth 2 ps)) (nth 0 ps) (nth 1 ps)) (b_of alpha t T) r)) finishing ≡ Ok v
    → Curves.zcb_outcome alpha ts fs r t T sigma ≡ Ok v
zcb_kept alpha ts fs r t T sigma = job_kept _ ts fs _ _ _ (λ e. curve_rises ts fs ((none_applies (option_rules (curve_faults ts fs) alpha t T sigma r)).0 e).1.1.1.0) (zcb_met alpha ts fs r t T sigma)

pub forward_kept : (ts fs : List Float) (t : Float) {v : Float}
    → as_listed (forward_rules (curve_faults ts fs) t) ts fs (t ∷ (t ⊕ h) ∷ []) (λ ps. Ok (forward_of (nth 0 ps) (nth 1 ps))) finishing ≡ Ok v → Curves.forward_outcome ts fs t ≡ Ok v
forward_kept ts fs t = job_kept _ ts fs _ _ _ (λ e. curve_rises ts fs ((none_applies (forward_rules (curve_faults ts fs) t)).0 e).1.1.0) (forward_met ts fs t)

pub theta_kept : (alpha : Float) (ts fs : List Float) (t sigma : Float) {v : Float}
    → as_listed (theta_rules (curve_faults ts fs) alpha t sigma) ts fs (theta_times alpha ts fs t sigma (lt h t)) (λ ps. Ok (theta_on alpha ts fs t sigma (lt h t) (nth 0 ps) (nth 1 ps) (nth 2 ps))) finishing ≡ Ok v
    → Curves.theta_outcome alpha ts fs t sigma ≡ Ok v
theta_kept alpha ts fs t sigma = job_kept _ ts fs _ _ _ (λ e. curve_rises ts fs ((none_applies (theta_rules (curve_faults ts fs) alpha t sigma)).0 e).1.1.1.0) (theta_met alpha ts fs t sigma)

pub annuity_kept : (ts fs payments accruals : List Float) {v : Float}
    → as_listed (annuity_rules (curve_faults ts fs) (coupon_faults payments accruals)) ts fs (take (length accruals) payments) (λ ps. Ok (annuity_of accruals ps)) finishing ≡ Ok v
    → annuity_outcome ts fs payments accruals ≡ Ok v
annuity_kept ts fs payments accruals = job_kept _ ts fs _ _ _ (λ e. curve_rises ts fs ((none_applies (annuity_rules (curve_faults ts fs) (coupon_faults payments accruals))).0 e).1.1.0) (annuity_met ts fs payments accruals)

-- ---- kind 5
pub model_kept : (alpha : Float) (ts fs payments accruals : List Float) (strike t sigma : Float) {v : Swaption} → let none = eqb (length payments) 0 in
    as_listed (model_rules_on alpha ts fs payments accruals strike t sigma) ts fs (model_times alpha ts fs payments accruals strike t sigma none) (model_valued alpha ts fs payments accruals strike t sigma none) finishing_swaption ≡ Ok v
    → model_outcome alpha ts fs payments accruals strike t sigma ≡ Ok v
model_kept alpha ts fs payments accruals strike t sigma =
    job_kept _ ts fs _ _ _ (λ e. curve_rises ts fs ((none_applies (model_rules_on alpha ts fs payments accruals strike t sigma)).0 e).1.1.1.0) (model_met alpha ts fs payments accruals strike t sigma)

-- ---- kinds 6 and 7
pub pricer_kept : (option : SwaptionType) (alpha : Float) (pls ss ts fs payments accruals owns : List Float) (strike t notional side : Float) {v : Valuation}
    → as_listed (pricer_rules_on alpha pls ss ts fs payments accruals owns strike t notional side) ts fs (t ∷ (t ⊕ h) ∷ payments) (pricer_valued option alpha pls ss ts fs payments accruals owns strike t notional side) finishing_valuation ≡ Ok v
    → pricer_outcome option alpha pls ss ts fs payments accruals owns strike t notional side ≡ Ok v
pricer_kept option alpha pls ss ts fs payments accruals owns strike t notional side =
    job_kept _ ts fs _ _ _ (λ e. (lists_fit option alpha pls ss ts fs payments accruals owns strike t notional side refl e).3) (pricer_met option alpha pls ss ts fs payments accruals owns strike t notional side)

-- ---- kinds 8 and 9, 10 and 11
pub caplet_fit_kept : (quote : VolatilityType) (alpha : Float) (ts fs : List Float) (strike t S vol : Float) {v : Fit}
    → as_listed (caplet_rules (curve_faults ts fs) quote alpha strike t S vol) ts fs (t ∷ S ∷ []) (caplet_solved quote alpha ts fs strike t S vol) finishing_fit ≡ Ok v → caplet_fit_outcome quote alpha ts fs strike t S vol ≡ Ok v
caplet_fit_kept quote alpha ts fs strike t S vol = job_kept _ ts fs _ _ _ (λ e. curve_rises ts fs ((none_applies (caplet_rules (curve_faults ts fs) quote alpha strike t S vol)).0 e).1.1.1.0) (caplet_fit_met quote alpha ts fs strike t S vol)

pub swaption_fit_kept : (quote : VolatilityType) (alpha : Float) (ts fs payments accruals : List Float) (strike t vol : Float) {v : Fit}
    → as_listed (swaption_rules_on quote alpha ts fs payments accruals strike t vol) ts fs (t ∷ (t ⊕ h) ∷ payments) (swaption_solved quote alpha ts fs payments accruals strike t vol) finishing_fit ≡ Ok v
    → swaption_fit_outcome quote alpha ts fs payments accruals strike t vol ≡ Ok v
swaption_fit_kept quote alpha ts fs payments accruals strike t vol =
    job_kept _ ts fs _ _ _ (λ e. curve_rises ts fs ((none_applies (swaption_rules_on quote alpha ts fs payments accruals strike t vol)).0 e).1.1.1.0) (swaption_fit_met quote alpha ts fs payments accruals strike t vol)

-- ---- every fit and every bumped fit of a basket, behind whose rules the curve's times rise
module _ (alpha : Float) (ts fs : List Float) (o : in_order true ts ≡ true) (e : Entry) where
  pub entry_fit_kept : (vol : Float) {v : Fit} → as_listed [] ts fs (e.start ∷ e.end ∷ []) (caplet_solved e.quote alpha ts fs e.strike e.start e.end vol) finishing_fit ≡ Ok v → fit_of alpha ts fs e vol ≡ Ok v
  entry_fit_kept vol = job_kept _ ts fs _ _ _ (λ _. o) (entry_fit_met alpha ts fs e vol)

  pub entry_bump_kept : (sigma : Float) {v : Fit} → as_listed [] ts fs (e.start ∷ e.end ∷ []) (caplet_solved e.quote alpha ts fs e.strike e.start e.end (e.vol ⊕ bump)) (finishing_bump alpha ts fs e sigma) ≡ Ok v
      → bump_of alpha ts fs e sigma ≡ Ok v
  entry_bump_kept sigma = job_kept _ ts fs _ _ _ (λ _. o) (entry_bump_met alpha ts fs e sigma)

-- ---- kinds 12 and 13: the points as they were worked from listed factors
unfoldable pub path_listed : Centre → Float → List Float → List Float → List Float → List Float → State → List Float → List Float → Outcome (List Float)
path_listed centre alpha ps ss ts fs s [] draws = Ok []
path_listed centre alpha ps ss ts fs s (t ∷ grid) [] = Ok []
path_listed centre alpha ps ss ts fs s (t ∷ grid) (draw ∷ draws) =
    required R.Empty (volatility_at ps ss t) (λ sigma.
    needing (listed_at ts fs t) (λ p.
    needing (listed_at ts fs (t ⊕ h)) (λ p_plus.
    let next = state_after alpha sigma t draw s in
    prepend (next.x ⊕ shift_of centre alpha sigma t next.variance (forward_of p p_plus)) (path_listed centre alpha ps ss ts fs next grid draws))))

points_kept : (centre : Centre) (alpha : Float) (ps ss ts fs : List Float) (s : State) (grid draws : List Float) {rates : List Float} → in_order true ts ≡ true → path_listed centre alpha ps ss ts fs s grid draws ≡ Ok rates → path_from centre alpha ps ss ts fs s grid draws ≡ Ok rates
unfolding path_listed path_from
points_kept centre alpha ps ss ts fs s [] draws o e = e
points_kept centre alpha ps ss ts fs s (t ∷ grid) [] o e = e
points_kept centre alpha ps ss ts fs s (t ∷ grid) (draw ∷ draws) {rates} o e = at (volatility_at ps ss t) (λ sigma qs q. points_kept centre alpha ps ss ts fs (state_after alpha sigma t draw s) grid draws {rates = qs} o q) e
  where
    before : Float → Outcome (List Float)
    before sigma = path_listed centre alpha ps ss ts fs (state_after alpha sigma t draw s) grid draws

    now : Float → Outcome (List Float)
    now sigma = path_from centre alpha ps ss ts fs (state_after alpha sigma t draw s) grid draws

    point : Float → Float → Float → Float
    point sigma p p_plus = (state_after alpha sigma t draw s).x ⊕ shift_of centre alpha sigma t (state_after alpha sigma t draw s).variance (forward_of p p_plus)

    tail : (x : Float) (old new : Outcome (List Float)) → ((qs : List Float) → old ≡ Ok qs → new ≡ Ok qs) → prepend x old ≡ Ok rates → prepend x new ≡ Ok rates
    tail x (Ok qs) new later k = rw (later qs refl) k
    tail x (Err r) new later k = absurd (not_both k)

    two_found : (sigma : Float) (m n : Option Float) → listed_at ts fs t ≡ m → listed_at ts fs (t ⊕ h) ≡ n → ((qs : List Float) → before sigma ≡ Ok qs → now sigma ≡ Ok qs)
        → needing m (λ p. needing n (λ p_plus. prepend (point sigma p p_plus) (before sigma))) ≡ Ok rates → needing (factor_at ts fs t) (λ p. needing (factor_at ts fs (t ⊕ h)) (λ p_plus. prepend (point sigma p p_plus) (now sigma))) ≡ Ok rates
    two_found sigma (Some p) (Some q) a b later k = rw (kept ts fs t o a, kept ts fs (t ⊕ h) o b) (tail (point sigma p q) (before sigma) (now sigma) later k)
    two_found sigma (Some p) None a b later k = absurd (not_both k)
    two_found sigma None n a b later k = absurd (not_both k)

    at : (v : Option Float) → ((sigma : Float) (qs : List Float) → before sigma ≡ Ok qs → now sigma ≡ Ok qs)
        → required R.Empty v (λ sigma. needing (listed_at ts fs t) (λ p. needing (listed_at ts fs (t ⊕ h)) (λ p_plus. prepend (point sigma p p_plus) (before sigma)))) ≡ Ok rates
        → required R.Empty v (λ sigma. needing (factor_at ts fs t) (λ p. needing (factor_at ts fs (t ⊕ h)) (λ p_plus. prepend (point sigma p p_plus) (now sigma)))) ≡ Ok rates
    at (Some sigma) later k = two_found sigma (listed_at ts fs t) (listed_at ts fs (t ⊕ h)) refl refl (later sigma) k
    at None later k = absurd (not_both k)

pub path_kept : (centre : Centre) (alpha : Float) (ps ss ts fs grid draws : List Float) (room : ℕ) {v : List Float}
    → staged (path_rules_on centre alpha ps ss ts fs grid draws room) (path_listed centre alpha ps ss ts fs start_state grid draws) Ok finishing_list ≡ Ok v → generate_outcome centre alpha ps ss ts fs grid draws room ≡ Ok v
path_kept centre alpha ps ss ts fs grid draws room =
    stages_kept (path_rules_on centre alpha ps ss ts fs grid draws room) (path_from centre alpha ps ss ts fs start_state grid draws) (path_listed centre alpha ps ss ts fs start_state grid draws) Ok finishing_list
    (λ e rates. points_kept centre alpha ps ss ts fs start_state grid draws {rates = rates} (grid_fits ps ss ts fs grid draws (eqb (length ps) 0) (several_for centre (length ps)) (starts_below grid) room alpha e refl).2)
    (path_met centre alpha ps ss ts fs grid draws room)
