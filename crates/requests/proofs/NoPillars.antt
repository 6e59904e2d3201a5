-- Document 02, A.2, of specs/NoPillars.antt: a valuation without pillars that is served is at intrinsic value; what one is refused by where a half square is not finite; and that no pillars move nothing.
use Rattle.std.specs.Prelude.{◌≡◌, true, false, eqb, length, Float, Ok, Err}
use Rattle.std.proofs.Math.Path.{refl, sym, ap, subst}
use Rattle.std.proofs.Common.{◌∙◌, arith}
use Rattle.std.proofs.Math.Bool.{not}
use mathlib.Core.List.{List, []}
use Rattle.std.proofs.Math.Dec.{T}
use Rattle.std.specs.Float.Ieee.{is_nan, le}
use Rattle.ieee.specs.Rounded.{◌⊗◌}
use Rattle.ieee.specs.Numbers.{zero, one}
use Rattle.refusals.specs.declared.curves.Faults.{Faults}
use Rattle.refusals.specs.declared.checks.Test.TheVariants.{Finite, Zero, Above}
use Rattle.refusals.specs.declared.refusals.Refusal.TheVariants as R
use Rattle.refusals.specs.Refusals.{Outcome, answer_number, answer_of, unless, following}
use Rattle.refusals.specs.Checks.{all_of}
use Rattle.refusals.specs.Faults.{curve_faults, pillar_faults, coupon_faults}
use Rattle.hullwhite_formulas.specs.HullWhite.{forward_of}
use Rattle.hullwhite_parameters.specs.Variance.{variance_pieces_of, piecewise_variance_of}
use Rattle.search_sum.specs.Sum.{coupon_sum}
use Rattle.search.specs.Rate.{rate_at, critical_of}
use Rattle.search.specs.declared.Root.{Root}
use Rattle.search.specs.Values.{critical_outcome}
use Rattle.search.specs.Reached.{rates_from, up_to_good, reached, some_nan}
use Rattle.search.proofs.Reaching.{exactly}
use Rattle.hullwhite_terms.specs.Terms.{coefficients_of, bs_of}
use Rattle.hullwhite_terms.specs.Swaption.{with_factors}
use Rattle.hullwhite_terms.specs.Begun.{Begun}
use Rattle.hullwhite_terms.proofs.Begun.{searches, begins}
use Rattle.hullwhite_terms.proofs.Entries.{coefficients_length, bs_length, factors_length}
use Rattle.pricer_formulas.specs.declared.bond_option.SwaptionType.{SwaptionType}
use Rattle.pricer_formulas.specs.Affine.{pricer_deviation_of, affine_aList_of}
use Rattle.pricer_value.specs.declared.value.Valuation.{Valuation}
use Rattle.pricer_value.specs.Value.{priced_by, swaption_priced}
use Rattle.pricer.specs.Pricer.{own_faults, pricer_rules, pricer_rules_on, pricer_outcome}
use Rattle.pricer.proofs.Outcomes.{lists_fit}
use Rattle.pricer.proofs.Demand3.{priced}
use Rattle.requests.specs.Intrinsic.{half_squares_of}
use Rattle.requests.specs.NoPillars.{no_variance, AtIntrinsicValue}
use Rattle.requests.proofs.Intrinsic.{intrinsic_sum, squares_finite, sum_nan}

-- ---- a search whose sum is NaN at every rate is refused by 9

never_a_number : {B : Type 0} (sum : Float → Float) (rest : Root → Outcome B) → ((rate : Float) → is_nan (sum rate) ≡ true) → following (critical_outcome (critical_of sum)) rest ≡ Err R.NanReached
unfolding reached rates_from up_to_good some_nan
never_a_number sum rest h = go (critical_outcome (critical_of sum)) ((exactly sum).not_a_number.1 some)
  where
    some : T (some_nan sum (reached sum))
    some = rw (h (rate_at true 0)) tt

    go : (x : Outcome Root) → answer_of x ≡ Err R.NanReached → following x rest ≡ Err R.NanReached
    go (Ok v) p = absurd (let z = ap answer_number p in omega arith)
    go (Err q) p = let e : q ≡ R.NanReached = cc in ap Err e

-- ---- "so every bond option is at intrinsic value", "in kinds 6 and 7"
module _ (option : SwaptionType) (alpha : Float) (ts fs payments accruals owns : List Float) (strike t notional side : Float) where
  -- what is priced by a variance on the factors fetched
  by : Float → Float → Float → List Float → Outcome Valuation
  by variance pt p_plus ps =
      let bs = bs_of alpha t payments in
      priced_by option (pricer_deviation_of variance) pt (coefficients_of strike accruals) (affine_aList_of variance (forward_of pt p_plus) pt bs ps) bs ps owns notional side

  fitting : (begun : Begun (pricer_rules_on alpha [] [] ts fs payments accruals owns strike t notional side) ts fs payments t) → (length accruals ≡ length payments) × (length owns ≡ length payments) × (length begun.ps ≡ length payments)
  fitting begun =
      let fit = lists_fit option alpha [] [] ts fs payments accruals owns strike t notional side refl begun.passed in
      (fit.1, fit.2, factors_length ts fs payments begun.ps begun.at_payments)

  pub valued_without_pillars : (v : Valuation) → pricer_outcome option alpha [] [] ts fs payments accruals owns strike t notional side ≡ Ok v → AtIntrinsicValue option alpha ts fs payments accruals owns strike t notional side v
  unfolding pricer_outcome swaption_priced piecewise_variance_of variance_pieces_of by
  valued_without_pillars v e =
      let s = searches (pricer_rules_on alpha [] [] ts fs payments accruals owns strike t notional side) ts fs payments t (by zero) tt (Ok v) tt e in
      let begun = s.begun in
      let q = priced _ _ _ _ _ _ _ _ _ _ v s.goes_on in
      let bracketed = q.located.bracketed in
      let cs = coefficients_of strike accruals in
      let bs = bs_of alpha t payments in
      let enough = subst (λ (x : Float). T (le one x)) bracketed.lower_sum bracketed.enough in
      let n = fitting begun in
      record {
        begun = begun;
        lengths = n;
        b_finite = squares_finite (forward_of begun.pt begun.p_plus) begun.pt v.root.bracket.lower cs bs begun.ps (coefficients_length strike accruals ∙ n.0 ∙ sym (bs_length alpha t payments)) (n.2 ∙ sym (bs_length alpha t payments)) enough;
        value_is = q.value_is ∙ ap (λ (x : Float). x ⊗ notional ⊗ side) (intrinsic_sum option (not (all_of Zero owns)) (forward_of begun.pt begun.p_plus) begun.pt v.after_step v.root.bracket.lower cs bs begun.ps owns enough);
      }

  -- where 0.5 × B × B of a coupon is not finite, a search that is begun is refused by 9, "A critical-rate evaluation .. that is reached is NaN"
  pub too_large : Begun (pricer_rules_on alpha [] [] ts fs payments accruals owns strike t notional side) ts fs payments t → all_of Finite (half_squares_of (bs_of alpha t payments)) ≡ false
      → pricer_outcome option alpha [] [] ts fs payments accruals owns strike t notional side ≡ Err R.NanReached
  unfolding pricer_outcome swaption_priced piecewise_variance_of variance_pieces_of by priced_by
  too_large begun h =
      let n = fitting begun in
      begins (pricer_rules_on alpha [] [] ts fs payments accruals owns strike t notional side) ts fs payments t (by zero) begun
      ∙ never_a_number (coupon_sum (coefficients_of strike accruals) _ (bs_of alpha t payments)) _ (λ rate. sum_nan (forward_of begun.pt begun.p_plus) begun.pt rate (coefficients_of strike accruals) (bs_of alpha t payments) begun.ps (coefficients_length strike accruals ∙ n.0 ∙ sym (bs_length alpha t payments)) (n.2 ∙ sym (bs_length alpha t payments)) h)

  -- the outcome depends on the pillars only through their faults and their variance
  beside : Faults → Float → Outcome Valuation
  beside schedule variance =
      unless (pricer_rules (curve_faults ts fs) schedule (coupon_faults payments accruals) (own_faults payments owns) (all_of (Above t) payments) (eqb (length payments) 0) alpha strike t notional side)
      (with_factors ts fs payments t (by variance))

  is_beside : (pls ss : List Float) → pricer_outcome option alpha pls ss ts fs payments accruals owns strike t notional side ≡ beside (pillar_faults pls ss) (piecewise_variance_of alpha pls ss zero t)
  unfolding pricer_outcome swaption_priced beside by
  is_beside pls ss = refl

  -- "No pillars means no movement.": the outcome is that beside any pillars that have no fault and come to no variance
  pub no_movement : (pls ss : List Float) → pillar_faults pls ss ≡ pillar_faults [] [] → piecewise_variance_of alpha pls ss zero t ≡ zero → pricer_outcome option alpha [] [] ts fs payments accruals owns strike t notional side ≡ pricer_outcome option alpha pls ss ts fs payments accruals owns strike t notional side
  no_movement pls ss f v = is_beside [] [] ∙ ap (λ (s : Faults). beside s (piecewise_variance_of alpha [] [] zero t)) (sym f) ∙ ap (beside (pillar_faults pls ss)) (no_variance alpha [] zero t ∙ sym v) ∙ sym (is_beside pls ss)
