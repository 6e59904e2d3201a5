-- What each call that searches or fits meets, in order: kinds 5 to 11, and the fits of a basket's entries. Its evaluations, rules 9 to 12, come after every time that it needs and before rule 13.
use Rattle.std.specs.Prelude.{◌≡◌, Bool, not, ◌&&◌, List, [], ◌∷◌, eqb, length, drop, Float, Ok, Err}
use Rattle.std.proofs.Math.Path.{refl}
use Rattle.std.proofs.Common.{◌∙◌, ap}
use Rattle.std.proofs.Math.Bool.{true, false, cond}
use Rattle.std.specs.Float.Ieee.{of_bits, lt}
use Rattle.std.specs.Float.Ieee.Scale.{finite}
use Rattle.ieee.specs.Rounded.{◌⊕◌, ◌⊗◌}
use Rattle.math_elementary.specs.Simple.{abs_of}
use Rattle.refusals.specs.declared.checks.Test.TheVariants.{Zero}
use Rattle.refusals.specs.declared.refusals.Refusal.TheVariants as R
use Rattle.refusals.specs.Refusals.{Outcome, first_of, unless, following}
use Rattle.refusals.specs.Checks.{all_of}
use Rattle.refusals.specs.Faults.{curve_faults}
use Rattle.curve.specs.Lookups.{factor_at}
use Rattle.hullwhite_formulas.specs.HullWhite.{h}
use Rattle.search_sum.specs.Sum.{coupon_sum}
use Rattle.search.specs.Rate.{critical_of}
use Rattle.search.specs.declared.Root.{Root}
use Rattle.search.specs.Values.{critical_outcome, root_finite}
use Rattle.hullwhite_terms.specs.Terms.{factors_at}
use Rattle.hullwhite_jamshidian.specs.Price as Model
use Rattle.hullwhite_jamshidian.specs.Price.{price_at, finishing_swaption}
use Rattle.hullwhite_swaptions.specs.Model.{model_rules_on, terms_priced, model_priced, model_outcome}
use Rattle.pricer_formulas.specs.declared.bond_option.SwaptionType.{SwaptionType}
use Rattle.pricer_formulas.specs.declared.newton.Sums.{Sums}
use Rattle.pricer_formulas.specs.Newton.{flat_limit, sums_of, stepped}
use Rattle.pricer_formulas.specs.Components.{components_of}
use Rattle.pricer_critical_rate.specs.Find.{search_rules, finishing_rate, find_outcome}
use Rattle.pricer_critical_rate.specs.declared.implicit.ImplicitRate.{ImplicitRate}
use Rattle.pricer_critical_rate.specs.Implicit.{finishing_implicit, stepped_from, implicit_outcome}
use Rattle.pricer_value.specs.declared.value.Valuation.{Valuation}
use Rattle.pricer_value.specs.Value.{finishing_valuation, priced_by, swaption_priced}
use Rattle.pricer.specs.Pricer as Pricer
use Rattle.math_bisection.specs.declared.result.Fit.{Fit}
use Rattle.math_bisection.specs.Result.{finishing_fit}
use Rattle.math_bisection.specs.Solve.{solve_of}
use Rattle.fit_objective.specs.declared.market.VolatilityType.{VolatilityType}
use Rattle.fit_objective.specs.Objective.{caplet_objective, swaption_objective}
use Rattle.fit.specs.Fits.{caplet_rules, swaption_rules_on, caplet_fitted, caplet_fit_outcome, swaption_fitted, swaption_fit_outcome}
use Rattle.basket_entries.specs.Entries.{Entry}
use Rattle.basket.specs.Basket.{fit_of, bump, diagonal_of, bump_of}
use Rattle.demand_order.specs.Stages.{evaluated, finished, Only, Met}
use Rattle.demand_order.specs.Steps.{nth, no_times}
use Rattle.demand_order.specs.Searches.{model_times, model_valued, search_and_step, pricer_valued, rate_and_step, caplet_solved, swaption_solved, finishing_bump}
use Rattle.demand_order.proofs.Stages.{met}
use Rattle.demand_order.proofs.Steps.{never, by, either, following_only, finishing_only, factors_only, search_only, solve_only, two_and}
use Rattle.hullwhite_jamshidian.specs.declared.price.Swaption.{Swaption}

-- ---- kind 5
model_only : (v : Swaption) → Only finished (finishing_swaption v)
model_only v = let b = v.root.bracket in finishing_only (finite v.value && finite v.root.rate && finite b.lower && finite b.upper && finite b.lower_sum && finite b.upper_sum) v

module _ (alpha : Float) (ts fs payments accruals : List Float) (strike t sigma : Float) where
  price_only : (ps : List Float) → Only evaluated (price_at alpha payments accruals strike t (nth 0 ps) (nth 1 ps) (drop 2 ps) sigma)
  unfolding price_at
  price_only ps = following_only (critical_outcome (critical_of _)) _ (search_only (critical_of _)) (λ root. never _)

  model_looked : (none : Bool) → cond none (Ok Model.no_swaption) (model_priced alpha ts fs payments accruals strike t sigma) ≡ following (factors_at ts fs (model_times alpha ts fs payments accruals strike t sigma none)) (λ ps. following (model_valued alpha ts fs payments accruals strike t sigma none ps) finishing_swaption)
  unfolding model_priced terms_priced factors_at of_bits
  model_looked true = refl
  model_looked false = two_and (factor_at ts fs t) (factor_at ts fs (t ⊕ h)) (factors_at ts fs payments) (λ pt p_plus ps. terms_priced alpha payments accruals strike t sigma pt p_plus ps)

  pub model_met : Met (model_rules_on alpha ts fs payments accruals strike t sigma) (factors_at ts fs (model_times alpha ts fs payments accruals strike t sigma (eqb (length payments) 0))) (model_valued alpha ts fs payments accruals strike t sigma (eqb (length payments) 0)) finishing_swaption (model_outcome alpha ts fs payments accruals strike t sigma)
  unfolding model_outcome
  model_met =
      met _ _ _ _ tt (λ z. factors_only ts fs (model_times alpha ts fs payments accruals strike t sigma (eqb (length payments) 0))) (λ ps. either (eqb (length payments) 0) (never Model.no_swaption) (price_only ps)) model_only _
      (ap (λ (o : Outcome Swaption). unless (model_rules_on alpha ts fs payments accruals strike t sigma) o) (model_looked (eqb (length payments) 0)))

-- ---- kinds 6 and 7

valuation_only : (v : Valuation) → Only finished (finishing_valuation v)
valuation_only v =
    let b = v.root.bracket in
    finishing_only (finite v.value && finite v.after_step && finite v.root.rate && finite b.lower && finite b.upper && finite b.lower_sum && finite b.upper_sum) v

step_only : (rate : Float) (sums : Sums) → Only evaluated (stepped rate sums)
unfolding stepped
step_only rate sums = either (lt (abs_of sums.derivative) flat_limit) (by R.FlatDerivative refl) (never _)

-- what is answered at the end of two steps is answered of what they come to
two_steps : {A B C D : Type 0} (o : Outcome A) (step : A → Outcome B) (made : A → B → C) (answered : C → Outcome D)
    → following o (λ a. following (step a) (λ b. answered (made a b))) ≡ following (following o (λ a. following (step a) (λ b. Ok (made a b)))) answered
two_steps (Err r) step made answered = refl
two_steps {B = B} {D = D} (Ok a) step made answered = go (step a)
  where
    go : (o : Outcome B) → following o (λ b. answered (made a b)) ≡ following (following o (λ b. Ok (made a b))) answered
    go (Ok b) = refl
    go (Err r) = refl

priced_steps : (option : SwaptionType) (deviation pt : Float) (cs affs bs ps owns : List Float) (notional side : Float) → priced_by option deviation pt cs affs bs ps owns notional side ≡ following (search_and_step option deviation pt cs affs bs ps owns notional side) finishing_valuation
unfolding priced_by
priced_steps option deviation pt cs affs bs ps owns notional side =
    two_steps (critical_outcome (critical_of (coupon_sum cs affs bs))) (λ root. stepped root.rate (sums_of root.rate cs affs bs))
    (λ root s. record { value = components_of option (not (all_of Zero owns)) deviation pt s cs affs bs ps owns ⊗ notional ⊗ side; after_step = s; root = root }) finishing_valuation

alike : {A B : Type 0} (o : Outcome A) {f g : A → Outcome B} → ((v : A) → f v ≡ g v) → following o f ≡ following o g
alike (Ok v) k = k v
alike (Err r) k = refl

-- three steps and a fourth
nested : {A B C D : Type 0} (o : Outcome A) (f : A → Outcome B) (g : B → Outcome C) (k : C → Outcome D) → following (following o (λ a. following (f a) g)) k ≡ following o (λ a. following (f a) (λ b. following (g b) k))
nested (Err r) f g k = refl
nested {B = B} {D = D} (Ok a) f g k = go (f a)
  where
    go : (o : Outcome B) → following (following o g) k ≡ following o (λ b. following (g b) k)
    go (Ok b) = refl
    go (Err r) = refl

module _ (option : SwaptionType) (alpha : Float) (pls ss ts fs payments accruals owns : List Float) (strike t notional side : Float) where
  valued_only : (qs : List Float) → Only evaluated (pricer_valued option alpha pls ss ts fs payments accruals owns strike t notional side qs)
  valued_only qs = following_only (critical_outcome (critical_of _)) _ (search_only (critical_of _)) (λ root. following_only (stepped root.rate _) _ (step_only root.rate _) (λ s. never _))

  pricer_looked : swaption_priced option alpha pls ss ts fs payments accruals owns strike t notional side ≡ following (factors_at ts fs (t ∷ (t ⊕ h) ∷ payments)) (λ qs. following (pricer_valued option alpha pls ss ts fs payments accruals owns strike t notional side qs) finishing_valuation)
  unfolding swaption_priced factors_at
  pricer_looked =
      two_and (factor_at ts fs t) (factor_at ts fs (t ⊕ h)) (factors_at ts fs payments) _
      ∙ alike (factors_at ts fs (t ∷ (t ⊕ h) ∷ payments)) (λ qs. priced_steps option _ _ _ _ _ _ owns notional side)

  pub pricer_met : Met (Pricer.pricer_rules_on alpha pls ss ts fs payments accruals owns strike t notional side) (factors_at ts fs (t ∷ (t ⊕ h) ∷ payments)) (pricer_valued option alpha pls ss ts fs payments accruals owns strike t notional side) finishing_valuation
      (Pricer.pricer_outcome option alpha pls ss ts fs payments accruals owns strike t notional side)
  unfolding Pricer.pricer_outcome
  pricer_met =
      met _ _ _ _ tt (λ z. factors_only ts fs (t ∷ (t ⊕ h) ∷ payments)) valued_only valuation_only _
      (ap (λ (o : Outcome Valuation). unless (Pricer.pricer_rules_on alpha pls ss ts fs payments accruals owns strike t notional side) o) pricer_looked)

-- ---- the critical rate as calls, on coefficients, A and B: they need no time
rate_only : (v : Root) → Only finished (finishing_rate v)
rate_only v = finishing_only (root_finite v.rate v.bracket) v

pub find_rate_met : (cs affs bs : List Float) → Met (search_rules cs affs bs) no_times (λ ps. critical_outcome (critical_of (coupon_sum cs affs bs))) finishing_rate (find_outcome cs affs bs)
unfolding find_outcome
find_rate_met cs affs bs = met _ _ _ _ tt (λ z. never []) (λ ps. search_only (critical_of (coupon_sum cs affs bs))) rate_only _ refl

implicit_only : (v : ImplicitRate) → Only finished (finishing_implicit v)
implicit_only v = finishing_only (root_finite v.root.rate v.root.bracket && finite v.after_step) v

pub implicit_rate_met : (cs affs bs : List Float) → Met (search_rules cs affs bs) no_times (λ ps. rate_and_step cs affs bs) finishing_implicit (implicit_outcome cs affs bs)
unfolding implicit_outcome stepped_from
implicit_rate_met cs affs bs =
    met _ _ _ _ tt (λ z. never [])
    (λ ps. following_only (critical_outcome (critical_of (coupon_sum cs affs bs))) _ (search_only (critical_of (coupon_sum cs affs bs))) (λ root. following_only (stepped root.rate _) _ (step_only root.rate _) (λ s. never _)))
    implicit_only _
    (ap (λ (o : Outcome ImplicitRate). unless (search_rules cs affs bs) o)
    (two_steps (critical_outcome (critical_of (coupon_sum cs affs bs))) (λ root. stepped root.rate (sums_of root.rate cs affs bs)) (λ root s. record { after_step = s; root = root }) finishing_implicit))

-- ---- kinds 8 and 9
fit_only : (fit : Fit) → Only finished (finishing_fit fit)
fit_only fit = let e = fit.ends in finishing_only (finite fit.sigma && finite fit.residual && finite e.low && finite e.high && finite e.low_residual && finite e.high_residual) fit

module _ (quote : VolatilityType) (alpha : Float) (ts fs : List Float) (strike t S vol : Float) where
  caplet_only : (ps : List Float) → Only evaluated (caplet_solved quote alpha ts fs strike t S vol ps)
  unfolding caplet_objective
  caplet_only ps = solve_only (caplet_objective quote alpha strike t S vol (nth 0 ps) (nth 1 ps)) (λ sigma. never _)

  caplet_looked : caplet_fitted quote alpha ts fs strike t S vol ≡ following (factors_at ts fs (t ∷ S ∷ [])) (λ ps. following (caplet_solved quote alpha ts fs strike t S vol ps) finishing_fit)
  unfolding caplet_fitted factors_at
  caplet_looked = two_and (factor_at ts fs t) (factor_at ts fs S) (Ok []) (λ pt p_s ps. following (solve_of (caplet_objective quote alpha strike t S vol pt p_s)) finishing_fit)

  pub caplet_fit_met : Met (caplet_rules (curve_faults ts fs) quote alpha strike t S vol) (factors_at ts fs (t ∷ S ∷ [])) (caplet_solved quote alpha ts fs strike t S vol) finishing_fit (caplet_fit_outcome quote alpha ts fs strike t S vol)
  unfolding caplet_fit_outcome
  caplet_fit_met =
      met _ _ _ _ tt (λ z. factors_only ts fs (t ∷ S ∷ [])) caplet_only fit_only _
      (ap (λ (o : Outcome Fit). unless (caplet_rules (curve_faults ts fs) quote alpha strike t S vol) o) caplet_looked)

-- ---- kinds 10 and 11
module _ (quote : VolatilityType) (alpha : Float) (ts fs payments accruals : List Float) (strike t vol : Float) where
  swaption_only : (ps : List Float) → Only evaluated (swaption_solved quote alpha ts fs payments accruals strike t vol ps)
  unfolding swaption_objective
  swaption_only ps =
      solve_only (swaption_objective quote alpha payments accruals strike t vol (nth 0 ps) (nth 1 ps) (drop 2 ps)) (λ sigma.
      following_only _ _ (following_only (price_at alpha payments accruals strike t (nth 0 ps) (nth 1 ps) (drop 2 ps) sigma) _ (price_only alpha ts fs payments accruals strike t sigma ps) (λ v. never _)) (λ v. never _))

  swaption_looked : swaption_fitted quote alpha ts fs payments accruals strike t vol ≡ following (factors_at ts fs (t ∷ (t ⊕ h) ∷ payments)) (λ ps. following (swaption_solved quote alpha ts fs payments accruals strike t vol ps) finishing_fit)
  unfolding swaption_fitted factors_at
  swaption_looked = two_and (factor_at ts fs t) (factor_at ts fs (t ⊕ h)) (factors_at ts fs payments) (λ pt p_plus ps. following (solve_of (swaption_objective quote alpha payments accruals strike t vol pt p_plus ps)) finishing_fit)

  pub swaption_fit_met : Met (swaption_rules_on quote alpha ts fs payments accruals strike t vol) (factors_at ts fs (t ∷ (t ⊕ h) ∷ payments)) (swaption_solved quote alpha ts fs payments accruals strike t vol) finishing_fit (swaption_fit_outcome quote alpha ts fs payments accruals strike t vol)
  unfolding swaption_fit_outcome
  swaption_fit_met =
      met _ _ _ _ tt (λ z. factors_only ts fs (t ∷ (t ⊕ h) ∷ payments)) swaption_only fit_only _
      (ap (λ (o : Outcome Fit). unless (swaption_rules_on quote alpha ts fs payments accruals strike t vol) o) swaption_looked)

-- ---- a basket's entry: its fit, and its bumped fit, "13 being met at each one's end". The basket's rules stand before all of them
module _ (alpha : Float) (xs fs : List Float) (e : Entry) where
  pub entry_fit_met : (vol : Float) → Met [] (factors_at xs fs (e.start ∷ e.end ∷ [])) (caplet_solved e.quote alpha xs fs e.strike e.start e.end vol) finishing_fit (fit_of alpha xs fs e vol)
  unfolding first_of
  entry_fit_met vol =
      met _ _ _ _ tt (λ z. factors_only xs fs (e.start ∷ e.end ∷ [])) (caplet_only e.quote alpha xs fs e.strike e.start e.end vol) fit_only _
      (caplet_looked e.quote alpha xs fs e.strike e.start e.end vol)

  bump_only : (sigma : Float) (fit : Fit) → Only finished (finishing_bump alpha xs fs e sigma fit)
  bump_only sigma fit = following_only (finishing_fit fit) _ (fit_only fit) (λ v. finishing_only (finite (diagonal_of v.sigma sigma)) v)

  pub entry_bump_met : (sigma : Float) → Met [] (factors_at xs fs (e.start ∷ e.end ∷ [])) (caplet_solved e.quote alpha xs fs e.strike e.start e.end (e.vol ⊕ bump)) (finishing_bump alpha xs fs e sigma) (bump_of alpha xs fs e sigma)
  unfolding bump_of first_of
  entry_bump_met sigma =
      met _ _ _ _ tt (λ z. factors_only xs fs (e.start ∷ e.end ∷ [])) (caplet_only e.quote alpha xs fs e.strike e.start e.end (e.vol ⊕ bump)) (bump_only sigma) _
      (ap (λ (o : Outcome Fit). following o (λ v. cond (finite (diagonal_of v.sigma sigma)) (Ok v) (Err R.Overflow))) (caplet_looked e.quote alpha xs fs e.strike e.start e.end (e.vol ⊕ bump))
      ∙ nested (factors_at xs fs (e.start ∷ e.end ∷ [])) (caplet_solved e.quote alpha xs fs e.strike e.start e.end (e.vol ⊕ bump)) finishing_fit _)
