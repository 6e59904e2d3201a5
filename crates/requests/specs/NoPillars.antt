-- Document 02, A.2: "From now on an empty pillar list in kinds 6 and 7 is variance 0, so every bond option is at intrinsic value. That is what `hull_white_piecewise_variance` gives. Refusal 7 no longer covers pillars in those kinds; it still does for volatility lookups, transition variances and paths."
use Rattle.std.specs.Prelude.{◌≡◌, Bool, true, false, ◌||◌, ℕ, eqb, ltb, length, Float, Ok, Err}
use Rattle.std.proofs.Math.Path.{refl, sym, ap}
use Rattle.std.proofs.Common.{◌∙◌, inl, inr, arith}
use Rattle.std.proofs.Math.Bool.{not}
use Rattle.std.proofs.lemmas.Bool.{false≢true}
use mathlib.Core.List.{List, [], ◌∷◌}
use Rattle.std.proofs.Math.Dec.{eqb-zero-suc, eqb-suc-zero}
use Rattle.std.specs.Float.Ieee.{of_bits}
use Rattle.ieee.specs.Rounded.{◌⊗◌}
use Rattle.ieee.specs.Numbers.{zero}
use Rattle.refusals.specs.declared.curves.Faults.{Faults}
use Rattle.refusals.specs.declared.checks.Test.TheVariants.{Finite, Zero, Above}
use Rattle.refusals.specs.declared.refusals.Refusal.{Refusal}
use Rattle.refusals.specs.declared.refusals.Refusal.TheVariants as R
use Rattle.refusals.specs.declared.refusals.Rule.{Rule}
use Rattle.refusals.specs.Refusals.{Outcome, number_of, rule, first_of, unless, following}
use Rattle.refusals.specs.Order.{First, first_applies}
use Rattle.refusals.specs.Checks.{all_of, in_order}
use Rattle.refusals.specs.Faults.{curve_faults, pillar_faults, coupon_faults, grid_faults}
use Rattle.curve.specs.Lookups.{up_to}
use Rattle.hullwhite_formulas.specs.HullWhite.{forward_of}
use Rattle.hullwhite_parameters.specs.Variance.{variance_pieces_of, piecewise_variance_of}
use Rattle.hullwhite_parameters.specs.Rules.{variance_rules, volatility_rules}
use Rattle.hullwhite_parameters.specs.Parameters.{volatility_found, volatility_outcome, reached_outcome, piecewise_variance_outcome}
use Rattle.hullwhite_transitions.specs.Written.{finishing_list}
use Rattle.hullwhite_transitions.specs.Transition.{transition_rules, variances_of, transition_outcome}
use Rattle.hullwhite_points.specs.declared.walk.Centre.{Centre}
use Rattle.hullwhite_points.specs.Path.{start_state, path_from}
use Rattle.hullwhite_paths.specs.Generate.{path_rules, starts_below, generate_outcome}
use Rattle.hullwhite_terms.specs.Terms.{coefficients_of, bs_of}
use Rattle.hullwhite_terms.specs.Begun.{Begun}
use Rattle.pricer_formulas.specs.declared.bond_option.SwaptionType.{SwaptionType}
use Rattle.pricer_formulas.specs.Affine.{affine_aList_of}
use Rattle.pricer_value.specs.declared.value.Valuation.{Valuation}
use Rattle.pricer_value.specs.Value.{swaption_priced}
use Rattle.pricer.specs.Pricer.{own_faults, pricer_rules, pricer_rules_on, pricer_outcome}
use Rattle.demand_order.proofs.Searches.{pricer_met}
use Rattle.requests.specs.Asked.{asked_behind, silent, asked_last}
use Rattle.requests.specs.Intrinsic.{intrinsics_of, half_squares_of}

-- ---- "an empty pillar list .. is variance 0", whatever the sigmas
pub no_variance : (alpha : Float) (sigmas : List Float) (start end : Float) → piecewise_variance_of alpha [] sigmas start end ≡ zero
unfolding piecewise_variance_of variance_pieces_of
no_variance alpha sigmas start end = refl

-- "That is what `hull_white_piecewise_variance` gives."
pub no_variance_served : (alpha start end : Float) → piecewise_variance_outcome alpha [] [] start end ≡ unless (variance_rules (pillar_faults [] []) alpha start end) (Ok zero)
unfolding piecewise_variance_outcome piecewise_variance_of variance_pieces_of of_bits
no_variance_served alpha start end = refl

-- ---- rules

or_true : (b x c d : Bool) → x ≡ true → (b || x || c || d) ≡ true
or_true true x c d e = refl
or_true false x c d e = rw e

or_last : (b x : Bool) → x ≡ true → (b || x) ≡ true
or_last true x e = refl
or_last false x e = e

no_entries : (xs : List Float) → eqb (length xs) 0 ≡ true → xs ≡ []
no_entries [] e = refl
no_entries (x ∷ xs) e = absurd (false≢true (sym (eqb-suc-zero (length xs)) ∙ e))

-- of seven rules of which the last alone is 7's, the last applies where 7 is the first
last_applies : (a b c d e f g : Bool) → First R.Empty (rule R.Size a ∷ rule R.NotFinite b ∷ rule R.MeanReversion c ∷ rule R.Order d ∷ rule R.Times e ∷ rule R.Domain f ∷ rule R.Empty g ∷ []) → g ≡ true
last_applies a b c d e f g (inl h) = absurd (let z = ap number_of h.1 in omega arith)
last_applies a b c d e f g (inr (h0, inl h)) = absurd (let z = ap number_of h.1 in omega arith)
last_applies a b c d e f g (inr (h0, inr (h1, inl h))) = absurd (let z = ap number_of h.1 in omega arith)
last_applies a b c d e f g (inr (h0, inr (h1, inr (h2, inl h)))) = absurd (let z = ap number_of h.1 in omega arith)
last_applies a b c d e f g (inr (h0, inr (h1, inr (h2, inr (h3, inl h))))) = absurd (let z = ap number_of h.1 in omega arith)
last_applies a b c d e f g (inr (h0, inr (h1, inr (h2, inr (h3, inr (h4, inl h)))))) = absurd (let z = ap number_of h.1 in omega arith)
last_applies a b c d e f g (inr (h0, inr (h1, inr (h2, inr (h3, inr (h4, inr (h5, inl h))))))) = h.0
last_applies a b c d e f g (inr (h0, inr (h1, inr (h2, inr (h3, inr (h4, inr (h5, inr (h6, h)))))))) = absurd h

first_is : {B : Type 0} (b : Bool) (q : Refusal) (xs : List Rule) (rest : Outcome B) → b ≡ true → unless (rule q b ∷ xs) rest ≡ Err q
unfolding first_of
first_is b q xs rest e = rw e

-- ---- "so every bond option is at intrinsic value", "in kinds 6 and 7"

module _ (option : SwaptionType) (alpha : Float) (ts fs payments accruals owns : List Float) (strike t notional side : Float) where
  -- a served valuation without pillars: its bond options are at intrinsic value, one for each coupon, on the factors that it fetched. 0.5 × B × B is finite in each, and so is B
  pub record AtIntrinsicValue (v : Valuation) : Type 0 where
    pub begun : Begun (pricer_rules_on alpha [] [] ts fs payments accruals owns strike t notional side) ts fs payments t
    pub lengths : (length accruals ≡ length payments) × (length owns ≡ length payments) × (length begun.ps ≡ length payments)
    pub b_finite : all_of Finite (half_squares_of (bs_of alpha t payments)) ≡ true
    pub value_is : let bs = bs_of alpha t payments in
        v.value ≡ intrinsics_of option (not (all_of Zero owns)) begun.pt v.after_step (coefficients_of strike accruals) (affine_aList_of zero (forward_of begun.pt begun.p_plus) begun.pt bs begun.ps) bs begun.ps owns ⊗ notional ⊗ side

  -- sigmas without times, and times without sigmas: rule 1, "paired lists differ in length"
  pub sigmas_alone : (s : Float) (ss : List Float) → pricer_outcome option alpha [] (s ∷ ss) ts fs payments accruals owns strike t notional side ≡ Err R.Size
  unfolding pricer_outcome
  sigmas_alone s ss = first_is ((curve_faults ts fs).size || (pillar_faults [] (s ∷ ss)).size || (coupon_faults payments accruals).size || (own_faults payments owns).size) R.Size _ (swaption_priced option alpha [] (s ∷ ss) ts fs payments accruals owns strike t notional side) (or_true (curve_faults ts fs).size (pillar_faults [] (s ∷ ss)).size (coupon_faults payments accruals).size (own_faults payments owns).size (ap not (eqb-zero-suc (length ss))))

  pub times_alone : (x : Float) (xs : List Float) → pricer_outcome option alpha (x ∷ xs) [] ts fs payments accruals owns strike t notional side ≡ Err R.Size
  unfolding pricer_outcome
  times_alone x xs = first_is ((curve_faults ts fs).size || (pillar_faults (x ∷ xs) []).size || (coupon_faults payments accruals).size || (own_faults payments owns).size) R.Size _ (swaption_priced option alpha (x ∷ xs) [] ts fs payments accruals owns strike t notional side) (or_true (curve_faults ts fs).size (pillar_faults (x ∷ xs) []).size (coupon_faults payments accruals).size (own_faults payments owns).size (or_last (ltb 64 (length (x ∷ xs))) (not (eqb (length (x ∷ xs)) 0)) (ap not (eqb-suc-zero (length xs)))))

  -- "Refusal 7 no longer covers pillars in those kinds": what is refused by 7 has no coupons
  pub seven_for_coupons : (pls ss : List Float) → pricer_outcome option alpha pls ss ts fs payments accruals owns strike t notional side ≡ Err R.Empty → payments ≡ []
  seven_for_coupons pls ss e =
      no_entries payments (last_applies _ _ _ _ _ _ (eqb (length payments) 0) ((first_applies R.Empty (pricer_rules_on alpha pls ss ts fs payments accruals owns strike t notional side)).0 (((pricer_met option alpha pls ss ts fs payments accruals owns strike t notional side).refused_at R.Empty).0 e)))

  -- without pillars the rules are those beside any pillars that have no fault
  pub pillars_not_asked : (pls ss : List Float) → pillar_faults pls ss ≡ pillar_faults [] [] → pricer_rules_on alpha pls ss ts fs payments accruals owns strike t notional side ≡ pricer_rules_on alpha [] [] ts fs payments accruals owns strike t notional side
  pillars_not_asked pls ss = ap (λ (schedule : Faults). pricer_rules (curve_faults ts fs) schedule (coupon_faults payments accruals) (own_faults payments owns) (all_of (Above t) payments) (eqb (length payments) 0) alpha strike t notional side)

-- and no pillars have none
pub no_fault : pillar_faults [] [] ≡ record { size = false; not_finite = false; order = false; domain = false }
unfolding all_of in_order
no_fault = refl

-- coupons are still asked for: what rules 1 to 6 let through is refused by 7
pub coupons_wanted : (option : SwaptionType) (alpha : Float) (pls ss ts fs accruals owns : List Float) (strike t notional side : Float) → pricer_outcome option alpha pls ss ts fs [] accruals owns strike t notional side ≡ unless (pricer_rules (curve_faults ts fs) (pillar_faults pls ss) (coupon_faults [] accruals) (own_faults [] owns) (all_of (Above t) []) false alpha strike t notional side) (Err R.Empty)
unfolding pricer_outcome
coupons_wanted option alpha pls ss ts fs accruals owns strike t notional side = asked_last (_ ∷ _ ∷ _ ∷ _ ∷ _ ∷ _ ∷ []) R.Empty (swaption_priced option alpha pls ss ts fs [] accruals owns strike t notional side)

-- ---- "it still does for volatility lookups, transition variances and paths": what rules 1 to 6 let through is refused by 7

pub volatility_wants_pillars : (ss : List Float) (t : Float) → volatility_outcome [] ss t ≡ unless (volatility_rules (pillar_faults [] ss) false t) (Err R.Empty)
unfolding volatility_outcome
volatility_wants_pillars ss t = asked_last (_ ∷ _ ∷ _ ∷ _ ∷ _ ∷ []) R.Empty (volatility_found [] ss t)

pub reached_wants_pillars : (ss : List Float) (t : Float) → reached_outcome [] ss t ≡ unless (volatility_rules (pillar_faults [] ss) false t) (Err R.Empty)
unfolding reached_outcome
reached_wants_pillars ss t = asked_last (_ ∷ _ ∷ _ ∷ _ ∷ _ ∷ []) R.Empty (Ok (up_to t []))

pub transition_wants_pillars : (alpha : Float) (ss : List Float) (steps : ℕ) (time_step : Float) (room : ℕ) → transition_outcome alpha [] ss steps time_step room ≡ unless (transition_rules (pillar_faults [] ss) false alpha steps room time_step) (Err R.Empty)
unfolding transition_outcome
transition_wants_pillars alpha ss steps time_step room = asked_last (_ ∷ _ ∷ _ ∷ _ ∷ _ ∷ _ ∷ []) R.Empty (finishing_list (variances_of alpha [] ss time_step 0 steps))

pub path_wants_pillars : (centre : Centre) (alpha : Float) (ss ts fs grid draws : List Float) (room : ℕ) → generate_outcome centre alpha [] ss ts fs grid draws room ≡ unless (path_rules (pillar_faults [] ss) (curve_faults ts fs) (grid_faults grid draws) false false (starts_below grid) (ltb room (length grid)) alpha) (Err R.Empty)
unfolding generate_outcome
path_wants_pillars centre alpha ss ts fs grid draws room = asked_behind (_ ∷ _ ∷ _ ∷ _ ∷ _ ∷ _ ∷ []) R.Empty _ (rule R.SeveralPillars false ∷ []) (following (path_from centre alpha [] ss ts fs start_state grid draws) finishing_list) (silent R.SeveralPillars)
