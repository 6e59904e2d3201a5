-- What each call of document 01 meets, in order: its rules, the times that it needs, its evaluations, the floats of its answer. A call that has no evaluations is never refused by 9 to 12, and one that needs no time never by 8.
use Rattle.std.specs.Prelude.{◌≡◌, Bool, not, cond, ◌&&◌, ◌||◌, ℕ, ltb, eqb, length, take, Float, Option, Some, None, Ok, Err}
use Rattle.std.proofs.Math.Path.{refl}
use Rattle.std.proofs.Common.{sym, ◌∙◌, ap, eqb-true}
use Rattle.std.proofs.Math.Bool.{true, false}
use mathlib.Core.List.{List, [], ◌∷◌}
use Rattle.std.proofs.lemmas.Bool.{eqb-false, not-false}
use Rattle.std.specs.Float.Ieee.{lt}
use Rattle.std.specs.Float.Ieee.Scale.{finite}
use Rattle.ieee.specs.Rounded.{◌⊕◌, ◌⊖◌}
use Rattle.ieee.specs.Numbers.{zero, two}
use Rattle.ieee.specs.Fused.{fused_of}
use Rattle.refusals.specs.declared.checks.Test.TheVariants.{Finite}
use Rattle.refusals.specs.declared.refusals.Refusal.TheVariants as R
use Rattle.refusals.specs.Refusals.{Outcome, first_of, unless, following, prepend, finishing}
use Rattle.refusals.specs.Order.{none_applies}
use Rattle.refusals.specs.Checks.{all_of}
use Rattle.refusals.specs.Faults.{curve_faults, pillar_faults, coupon_faults, grid_faults, seeded_grid_faults}
use Rattle.refusals.specs.declared.curves.Faults.{Faults}
use Rattle.refusals.proofs.Outcomes.{neither, not_both}
use Rattle.curve.specs.Lookups.{factor_at, volatility_at, required, needing, up_to}
use Rattle.curve.proofs.Walks.{volatility_first}
use Rattle.hullwhite_formulas.specs.HullWhite.{h, b_of, forward_of, a_of, zcb_price_of, zcb_price_volatility_of, short_rate_variance_of, optionlet_strike_of, optionlet_of}
use Rattle.quotes.specs.Formulas.{quote_d1_of, quote_d2_of, black_call_of, black_put_of, bachelier_call_of, annuity_step}
use Rattle.quotes.specs.Rules.{quote_rules, annuity_rules}
use Rattle.quotes.specs.declared.utils.D1D2.{D1D2}
use Rattle.quotes.specs.Utils.{d1d2_worked, d1d2_outcome, black_call_outcome, black_put_outcome, bachelier_call_outcome, annuity_from, annuity_priced, annuity_outcome}
use Rattle.hullwhite_parameters.specs.Variance.{piecewise_variance_of}
use Rattle.hullwhite_parameters.specs.Rules.{variance_rules}
use Rattle.hullwhite_parameters.specs.Parameters as Schedules
use Rattle.hullwhite_options.specs.declared.options.OptionType.{OptionType}
use Rattle.hullwhite_options.specs.Rules.{option_rules}
use Rattle.hullwhite_options.specs.Options.{bond_option_of, bond_option_priced, bond_option_outcome, optionlet_priced, optionlet_outcome}
use Rattle.hullwhite_model.specs.Rules.{no_faults, forward_rules, theta_rules}
use Rattle.hullwhite_model.specs.Curves as Curves
use Rattle.hullwhite_transitions.specs.Written.{finishing_list}
use Rattle.hullwhite_transitions.specs.Transition.{transition_rules, variances_of, transition_outcome}
use Rattle.hullwhite_points.specs.declared.walk.State.{State}
use Rattle.hullwhite_points.specs.declared.walk.Centre.{Centre}
use Rattle.hullwhite_points.specs.Path.{state_after, start_state, path_from}
use Rattle.draws.specs.Draws.{draws_of, draw_rules, draws_outcome}
use Rattle.hullwhite_paths.specs.Generate.{generate_outcome}
use Rattle.hullwhite_paths.specs.Seeded.{seeded_rules_on, seeded_outcome}
use Rattle.hullwhite_terms.specs.Terms.{factors_at}
use Rattle.fit_objective.specs.Market.{annuity_onto, annuity_of}
use Rattle.demand_order.specs.Stages.{off_curve, finished, Only, Met}
use Rattle.demand_order.specs.Calls.{theta_times, theta_on, path_rules_on}
use Rattle.demand_order.specs.Steps.{nth, no_times}
use Rattle.demand_order.proofs.Steps.{never, finishing_only, required_only, needing_only, prepend_only, factors_only, two_and, three, plain}

finite_only : (v : Float) → Only finished (finishing v)
finite_only v = finishing_only (finite v) v

-- ---- kinds 1 to 4
pub optionlet_met : (option : OptionType) (alpha : Float) (ts fs : List Float) (strike t S sigma : Float)
    → Met (option_rules (curve_faults ts fs) alpha t S sigma strike) (factors_at ts fs (t ∷ S ∷ []))
    (λ ps. Ok (optionlet_of strike t S (bond_option_of option (zcb_price_volatility_of alpha sigma t S) (optionlet_strike_of strike t S) (nth 0 ps) (nth 1 ps)))) finishing
    (optionlet_outcome option alpha ts fs strike t S sigma)
unfolding optionlet_outcome optionlet_priced factors_at
optionlet_met option alpha ts fs strike t S sigma =
    plain _ _ _ _ _ tt (λ z. factors_only ts fs (t ∷ S ∷ [])) finite_only
    (ap (λ (o : Outcome Float). unless (option_rules (curve_faults ts fs) alpha t S sigma strike) o)
    (two_and (factor_at ts fs t) (factor_at ts fs S) (Ok []) (λ p q ps. finishing (optionlet_of strike t S (bond_option_of option (zcb_price_volatility_of alpha sigma t S) (optionlet_strike_of strike t S) p q)))))

pub bond_option_met : (option : OptionType) (alpha : Float) (ts fs : List Float) (t T strike sigma : Float)
    → Met (option_rules (curve_faults ts fs) alpha t T sigma strike) (factors_at ts fs (t ∷ T ∷ []))
    (λ ps. Ok (bond_option_of option (zcb_price_volatility_of alpha sigma t T) strike (nth 0 ps) (nth 1 ps))) finishing
    (bond_option_outcome option alpha ts fs t T strike sigma)
unfolding bond_option_outcome bond_option_priced factors_at
bond_option_met option alpha ts fs t T strike sigma =
    plain _ _ _ _ _ tt (λ z. factors_only ts fs (t ∷ T ∷ [])) finite_only
    (ap (λ (o : Outcome Float). unless (option_rules (curve_faults ts fs) alpha t T sigma strike) o)
    (two_and (factor_at ts fs t) (factor_at ts fs T) (Ok []) (λ p q ps. finishing (bond_option_of option (zcb_price_volatility_of alpha sigma t T) strike p q))))

-- ---- the other formulas of hullwhitemodel.rs
pub b_met : (alpha t T : Float) → Met (option_rules no_faults alpha t T zero zero) no_times (λ ps. Ok (b_of alpha t T)) finishing (Curves.b_outcome alpha t T)
unfolding Curves.b_outcome
b_met alpha t T = plain _ _ _ _ _ tt (λ z. never []) finite_only refl

pub zcb_volatility_met : (alpha sigma t T : Float) → Met (option_rules no_faults alpha t T sigma zero) no_times (λ ps. Ok (zcb_price_volatility_of alpha sigma t T)) finishing (Curves.zcb_price_volatility_outcome alpha sigma t T)
unfolding Curves.zcb_price_volatility_outcome
zcb_volatility_met alpha sigma t T = plain _ _ _ _ _ tt (λ z. never []) finite_only refl

pub short_rate_variance_met : (alpha t T sigma : Float) → Met (option_rules no_faults alpha t T sigma zero) no_times (λ ps. Ok (short_rate_variance_of alpha t T sigma)) finishing (Curves.short_rate_variance_outcome alpha t T sigma)
unfolding Curves.short_rate_variance_outcome
short_rate_variance_met alpha t T sigma = plain _ _ _ _ _ tt (λ z. never []) finite_only refl

pub a_met : (alpha : Float) (ts fs : List Float) (t T sigma : Float)
    → Met (option_rules (curve_faults ts fs) alpha t T sigma zero) (factors_at ts fs (t ∷ T ∷ (t ⊕ h) ∷ []))
    (λ ps. Ok (a_of alpha t sigma (b_of alpha t T) (forward_of (nth 0 ps) (nth 2 ps)) (nth 0 ps) (nth 1 ps))) finishing
    (Curves.a_outcome alpha ts fs t T sigma)
unfolding Curves.a_outcome Curves.a_priced factors_at
a_met alpha ts fs t T sigma =
    plain _ _ _ _ _ tt (λ z. factors_only ts fs (t ∷ T ∷ (t ⊕ h) ∷ [])) finite_only
    (ap (λ (o : Outcome Float). unless (option_rules (curve_faults ts fs) alpha t T sigma zero) o)
    (three (factor_at ts fs t) (factor_at ts fs T) (factor_at ts fs (t ⊕ h)) (λ p q r. finishing (a_of alpha t sigma (b_of alpha t T) (forward_of p r) p q))))

pub zcb_met : (alpha : Float) (ts fs : List Float) (r t T sigma : Float)
    → Met (option_rules (curve_faults ts fs) alpha t T sigma r) (factors_at ts fs (t ∷ T ∷ (t ⊕ h) ∷ []))
    (λ ps. Ok (zcb_price_of (a_of alpha t sigma (b_of alpha t T) (forward_of (nth 0 ps) (nth 2 ps)) (nth 0 ps) (nth 1 ps)) (b_of alpha t T) r)) finishing
    (Curves.zcb_outcome alpha ts fs r t T sigma)
unfolding Curves.zcb_outcome Curves.zcb_priced factors_at
zcb_met alpha ts fs r t T sigma =
    plain _ _ _ _ _ tt (λ z. factors_only ts fs (t ∷ T ∷ (t ⊕ h) ∷ [])) finite_only
    (ap (λ (o : Outcome Float). unless (option_rules (curve_faults ts fs) alpha t T sigma r) o)
    (three (factor_at ts fs t) (factor_at ts fs T) (factor_at ts fs (t ⊕ h)) (λ p q s. finishing (zcb_price_of (a_of alpha t sigma (b_of alpha t T) (forward_of p s) p q) (b_of alpha t T) r))))

pub forward_met : (ts fs : List Float) (t : Float)
    → Met (forward_rules (curve_faults ts fs) t) (factors_at ts fs (t ∷ (t ⊕ h) ∷ [])) (λ ps. Ok (forward_of (nth 0 ps) (nth 1 ps))) finishing (Curves.forward_outcome ts fs t)
unfolding Curves.forward_outcome Curves.forward_priced factors_at
forward_met ts fs t =
    plain _ _ _ _ _ tt (λ z. factors_only ts fs (t ∷ (t ⊕ h) ∷ [])) finite_only
    (ap (λ (o : Outcome Float). unless (forward_rules (curve_faults ts fs) t) o) (two_and (factor_at ts fs t) (factor_at ts fs (t ⊕ h)) (Ok []) (λ p q ps. finishing (forward_of p q))))

-- where t is above h the third time is t - h, else t + 2 × h
module _ (alpha : Float) (ts fs : List Float) (t sigma : Float) where
  theta_looked : (back : Bool)
      → needing (factor_at ts fs t) (λ p. needing (factor_at ts fs (t ⊕ h)) (λ q.
      cond back (needing (factor_at ts fs (t ⊖ h)) (λ r. finishing (theta_on alpha ts fs t sigma true p q r))) (needing (factor_at ts fs (fused_of two h t)) (λ r. finishing (theta_on alpha ts fs t sigma false p q r)))))
      ≡ following (factors_at ts fs (theta_times alpha ts fs t sigma back)) (λ ps. finishing (theta_on alpha ts fs t sigma back (nth 0 ps) (nth 1 ps) (nth 2 ps)))
  unfolding factors_at
  theta_looked true = three (factor_at ts fs t) (factor_at ts fs (t ⊕ h)) (factor_at ts fs (t ⊖ h)) (λ p q r. finishing (theta_on alpha ts fs t sigma true p q r))
  theta_looked false = three (factor_at ts fs t) (factor_at ts fs (t ⊕ h)) (factor_at ts fs (fused_of two h t)) (λ p q r. finishing (theta_on alpha ts fs t sigma false p q r))

  pub theta_met : Met (theta_rules (curve_faults ts fs) alpha t sigma) (factors_at ts fs (theta_times alpha ts fs t sigma (lt h t))) (λ ps. Ok (theta_on alpha ts fs t sigma (lt h t) (nth 0 ps) (nth 1 ps) (nth 2 ps))) finishing (Curves.theta_outcome alpha ts fs t sigma)
  unfolding Curves.theta_outcome Curves.theta_priced Curves.theta_from
  theta_met =
      plain _ _ _ _ _ tt (λ z. factors_only ts fs (theta_times alpha ts fs t sigma (lt h t))) finite_only
      (ap (λ (o : Outcome Float). unless (theta_rules (curve_faults ts fs) alpha t sigma) o) (theta_looked (lt h t)))

-- ---- utils.rs
pub d1_d2_met : (fwd strike vol tau : Float)
    → Met (quote_rules true fwd strike vol tau) no_times (λ ps. Ok (record { d1 = quote_d1_of fwd strike vol tau; d2 = quote_d2_of vol tau (quote_d1_of fwd strike vol tau) }))
    (λ (v : D1D2). cond (finite v.d1 && finite v.d2) (Ok v) (Err R.Overflow)) (d1d2_outcome fwd strike vol tau)
unfolding d1d2_outcome d1d2_worked
d1_d2_met fwd strike vol tau = plain _ _ _ _ _ tt (λ z. never []) (λ v. finishing_only (finite v.d1 && finite v.d2) v) refl

pub black_call_met : (fwd strike vol tau : Float) → Met (quote_rules true fwd strike vol tau) no_times (λ ps. Ok (black_call_of fwd strike vol tau)) finishing (black_call_outcome fwd strike vol tau)
unfolding black_call_outcome
black_call_met fwd strike vol tau = plain _ _ _ _ _ tt (λ z. never []) finite_only refl

pub black_put_met : (fwd strike vol tau : Float) → Met (quote_rules true fwd strike vol tau) no_times (λ ps. Ok (black_put_of fwd strike vol tau)) finishing (black_put_outcome fwd strike vol tau)
unfolding black_put_outcome
black_put_met fwd strike vol tau = plain _ _ _ _ _ tt (λ z. never []) finite_only refl

pub bachelier_call_met : (fwd strike vol tau : Float) → Met (quote_rules false fwd strike vol tau) no_times (λ ps. Ok (bachelier_call_of fwd strike vol tau)) finishing (bachelier_call_outcome fwd strike vol tau)
unfolding bachelier_call_outcome
bachelier_call_met fwd strike vol tau = plain _ _ _ _ _ tt (λ z. never []) finite_only refl

-- the annuity needs the payment times that have an accrual: by rule 1, all
annuity_looked : (ts fs : List Float) (sum : Float) (payments accruals : List Float) → annuity_from ts fs sum payments accruals ≡ following (factors_at ts fs (take (length accruals) payments)) (λ ps. finishing (annuity_onto sum accruals ps))
unfolding annuity_from factors_at annuity_onto
annuity_looked ts fs sum [] [] = refl
annuity_looked ts fs sum [] (accrual ∷ accruals) = refl
annuity_looked ts fs sum (payment ∷ payments) [] = refl
annuity_looked ts fs sum (payment ∷ payments) (accrual ∷ accruals) = go (λ p. annuity_looked ts fs (annuity_step sum accrual p) payments accruals) (factor_at ts fs payment)
  where
    again : (p : Float) (o : Outcome (List Float)) → following o (λ ps. finishing (annuity_onto (annuity_step sum accrual p) accruals ps)) ≡ following (prepend p o) (λ ps. finishing (annuity_onto sum (accrual ∷ accruals) ps))
    again p (Ok ps) = refl
    again p (Err r) = refl

    go : ((p : Float) → annuity_from ts fs (annuity_step sum accrual p) payments accruals ≡ following (factors_at ts fs (take (length accruals) payments)) (λ ps. finishing (annuity_onto (annuity_step sum accrual p) accruals ps)))
        → (m : Option Float) → needing m (λ p. annuity_from ts fs (annuity_step sum accrual p) payments accruals) ≡ following (needing m (λ p. prepend p (factors_at ts fs (take (length accruals) payments)))) (λ ps. finishing (annuity_onto sum (accrual ∷ accruals) ps))
    go on (Some p) = on p ∙ again p (factors_at ts fs (take (length accruals) payments))
    go on None = refl

pub annuity_met : (ts fs payments accruals : List Float)
    → Met (annuity_rules (curve_faults ts fs) (coupon_faults payments accruals)) (factors_at ts fs (take (length accruals) payments)) (λ ps. Ok (annuity_of accruals ps)) finishing (annuity_outcome ts fs payments accruals)
unfolding annuity_outcome annuity_priced annuity_of
annuity_met ts fs payments accruals =
    plain _ _ _ _ _ tt (λ z. factors_only ts fs (take (length accruals) payments)) finite_only
    (ap (λ (o : Outcome Float). unless (annuity_rules (curve_faults ts fs) (coupon_faults payments accruals)) o) (annuity_looked ts fs zero payments accruals))

-- ---- schedules of pillars

-- rule 7 stands among the rules alone: behind them there is a pillar to look at
pillars_there : (ts ss : List Float) (t : Float) → (pillar_faults ts ss).size ≡ false → eqb (length ts) 0 ≡ false → (s : Float) × (volatility_at ts ss t ≡ Some s)
pillars_there ts ss t size some =
    let there : length ts ≡ 0 → ⊥ = eqb-false (length ts) 0 some in
    let paired : length ts ≡ length ss = eqb-true (length ts) (length ss) (not-false (eqb (length ts) (length ss)) (neither (ltb 64 (length ts)) (not (eqb (length ts) (length ss))) size).1) in
    (_, volatility_first ts ss t there (λ z. there (paired ∙ z)))

pub volatility_met : (ts ss : List Float) (t : Float)
    → Met (Schedules.rules_at ts ss t) (required R.Empty (volatility_at ts ss t) (λ s. Ok (s ∷ []))) (λ ps. Ok (nth 0 ps)) finishing (Schedules.volatility_outcome ts ss t)
unfolding Schedules.volatility_outcome Schedules.volatility_found
volatility_met ts ss t = plain _ _ _ _ _ tt there finite_only (ap (λ (o : Outcome Float). unless (Schedules.rules_at ts ss t) o) (one (volatility_at ts ss t)))
  where
    one : (m : Option Float) → required R.Empty m finishing ≡ following (required R.Empty m (λ s. Ok (s ∷ []))) (λ ps. finishing (nth 0 ps))
    one (Some s) = refl
    one None = refl

    there : first_of (Schedules.rules_at ts ss t) ≡ Ok tt → Only off_curve (required R.Empty (volatility_at ts ss t) (λ s. Ok (s ∷ [])))
    there e r k =
        let none = (none_applies (Schedules.rules_at ts ss t)).0 e in
        let found = pillars_there ts ss t none.0 none.1.1.1.1.1.0 in
        absurd (not_both (sym k ∙ ap (λ (m : Option Float). required R.Empty m (λ s. Ok (s ∷ []))) found.1))

pub reached_met : (ts ss : List Float) (t : Float) → Met (Schedules.rules_at ts ss t) no_times (λ ps. Ok (up_to t ts)) Ok (Schedules.reached_outcome ts ss t)
unfolding Schedules.reached_outcome
reached_met ts ss t = plain _ _ _ _ _ tt (λ z. never []) never refl

pub variance_met : (alpha : Float) (ts ss : List Float) (start end : Float)
    → Met (variance_rules (pillar_faults ts ss) alpha start end) no_times (λ ps. Ok (piecewise_variance_of alpha ts ss start end)) finishing (Schedules.piecewise_variance_outcome alpha ts ss start end)
unfolding Schedules.piecewise_variance_outcome
variance_met alpha ts ss start end = plain _ _ _ _ _ tt (λ z. never []) finite_only refl

list_only : (xs : List Float) → Only finished (finishing_list xs)
list_only xs = finishing_only (all_of Finite xs) xs

pub transition_met : (alpha : Float) (ts ss : List Float) (steps : ℕ) (time_step : Float) (room : ℕ)
    → Met (transition_rules (pillar_faults ts ss) (eqb (length ts) 0) alpha steps room time_step) no_times (λ ps. Ok (variances_of alpha ts ss time_step 0 steps)) finishing_list (transition_outcome alpha ts ss steps time_step room)
unfolding transition_outcome
transition_met alpha ts ss steps time_step room = plain _ _ _ _ _ tt (λ z. never []) list_only refl

-- ---- kinds 12 and 13: the points, each from the factors at t and t + h; behind the rules they are refused by 8 alone
module _ (centre : Centre) (alpha : Float) (ps ss ts fs : List Float) (there : (t : Float) → (s : Float) × (volatility_at ps ss t ≡ Some s)) where
  points_only : (s : State) (grid draws : List Float) → Only off_curve (path_from centre alpha ps ss ts fs s grid draws)
  unfolding path_from
  points_only s [] draws = never []
  points_only s (t ∷ grid) [] = never []
  points_only s (t ∷ grid) (draw ∷ draws) =
      required_only R.Empty (volatility_at ps ss t) (there t) (λ sigma.
      needing_only (factor_at ts fs t) (λ p.
      needing_only (factor_at ts fs (t ⊕ h)) (λ q.
      prepend_only _ (path_from centre alpha ps ss ts fs (state_after alpha sigma t draw s) grid draws) (points_only (state_after alpha sigma t draw s) grid draws))))

-- rule 1 lets through pillars that are paired, and rule 7 some, whatever gives the draws
pillars_behind : (centre : Centre) (alpha : Float) (ps ss ts fs grid draws : List Float) (points : Faults) (short : Bool) → ((pillar_faults ps ss).size || (curve_faults ts fs).size || points.size || short) ≡ false
    → eqb (length ps) 0 ≡ false → Only off_curve (path_from centre alpha ps ss ts fs start_state grid draws)
pillars_behind centre alpha ps ss ts fs grid draws points short sizes some =
    let three_lists = (neither ((pillar_faults ps ss).size || (curve_faults ts fs).size || points.size) short sizes).0 in
    let two_lists = (neither ((pillar_faults ps ss).size || (curve_faults ts fs).size) points.size three_lists).0 in
    let size = (neither (pillar_faults ps ss).size (curve_faults ts fs).size two_lists).0 in
    points_only centre alpha ps ss ts fs (λ t. pillars_there ps ss t size some) start_state grid draws

module _ (centre : Centre) (alpha : Float) (ps ss ts fs grid draws : List Float) (room : ℕ) where
  points_behind : first_of (path_rules_on centre alpha ps ss ts fs grid draws room) ≡ Ok tt → Only off_curve (path_from centre alpha ps ss ts fs start_state grid draws)
  points_behind e =
      let none = (none_applies (path_rules_on centre alpha ps ss ts fs grid draws room)).0 e in
      pillars_behind centre alpha ps ss ts fs grid draws (grid_faults grid draws) (ltb room (length grid)) none.0 none.1.1.1.1.1.1.0

  pub path_met : Met (path_rules_on centre alpha ps ss ts fs grid draws room) (path_from centre alpha ps ss ts fs start_state grid draws) Ok finishing_list (generate_outcome centre alpha ps ss ts fs grid draws room)
  unfolding generate_outcome
  path_met = plain _ _ (λ points. points) _ _ tt points_behind list_only refl

-- the same on the draws of a seed, which meets 14 among its rules
module _ (centre : Centre) (alpha : Float) (ps ss ts fs grid : List Float) (seed room : ℕ) where
  seeded_behind : first_of (seeded_rules_on centre alpha ps ss ts fs grid seed room) ≡ Ok tt → Only off_curve (path_from centre alpha ps ss ts fs start_state grid (draws_of (length grid) seed))
  seeded_behind e =
      let none = (none_applies (seeded_rules_on centre alpha ps ss ts fs grid seed room)).0 e in
      pillars_behind centre alpha ps ss ts fs grid (draws_of (length grid) seed) (seeded_grid_faults grid) (ltb room (length grid)) none.0 none.1.1.1.1.1.1.1.0

  pub seeded_met : Met (seeded_rules_on centre alpha ps ss ts fs grid seed room) (path_from centre alpha ps ss ts fs start_state grid (draws_of (length grid) seed)) Ok finishing_list (seeded_outcome centre alpha ps ss ts fs grid seed room)
  unfolding seeded_outcome
  seeded_met = plain _ _ (λ points. points) _ _ tt seeded_behind list_only refl

-- draws alone: two rules, and nothing behind them
pub draws_met : (seed n : ℕ) → Met (draw_rules seed n) no_times (λ ps. Ok (draws_of n seed)) Ok (draws_outcome seed n)
unfolding draws_outcome
draws_met seed n = plain _ _ _ _ _ tt (λ z. never []) never refl
