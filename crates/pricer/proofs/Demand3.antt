-- Demand 3 of kinds 6 and 7, of the definition: an outcome that is served has its root located among the sums of the terms priced, and one is refused for want of a bracket exactly where a search is begun that finds none. Assumes nothing.
use Rattle.std.specs.Prelude.{Ok, Err}
use mathlib.Core.Path.{◌≡◌, refl, sym, ap, ◌∙◌, subst}
use mathlib.Core.Logic.{◌↔◌}
use mathlib.Core.Bool.{Bool, true, false, not, ◌&&◌, cond}
use mathlib.Core.List.{List}
use native.Mathlib.Omega.{arith}
use lib.Ieee.{Float, lt}
use lib.Ieee.Scale.{finite}
use Rattle.ieee.specs.Rounded.{◌⊖◌, ◌⊗◌, ◌⊘◌}
use Rattle.ieee.specs.Numbers.{zero}
use Rattle.math_elementary.specs.Simple.{abs_of}
use Rattle.refusals.specs.declared.checks.Test.TheVariants.{Zero}
use Rattle.refusals.specs.declared.refusals.Refusal.TheVariants as R
use Rattle.refusals.specs.Refusals.{Outcome, answer_number, answer_of, following, reported}
use Rattle.refusals.specs.Checks.{all_of}
use Rattle.refusals.proofs.Outcomes.{not_both}
use Rattle.hullwhite_formulas.specs.HullWhite.{forward_of}
use Rattle.hullwhite_parameters.specs.Variance.{piecewise_variance_of}
use Rattle.search_sum.specs.Sum.{coupon_sum}
use Rattle.search.specs.declared.Root.{Root}
use Rattle.search.specs.Reached.{Unbracketed}
use Rattle.search.specs.Facts.{Located}
use Rattle.hullwhite_terms.proofs.Callers.{root_located, wants_bracket, no_bracket, ends_so, ends_otherwise}
use Rattle.hullwhite_terms.specs.Terms.{coefficients_of, bs_of}
use Rattle.hullwhite_terms.specs.Begun.{RootFound, WantsBracket}
use Rattle.hullwhite_terms.proofs.Begun.{searches, begins}
use Rattle.pricer_formulas.specs.declared.bond_option.SwaptionType.{SwaptionType}
use Rattle.pricer_formulas.specs.Affine.{pricer_deviation_of, affine_aList_of}
use Rattle.pricer_formulas.specs.Newton.{flat_limit, sums_of, stepped}
use Rattle.pricer_formulas.specs.Components.{components_of}
use Rattle.pricer_value.specs.declared.value.Valuation.{Valuation}
use Rattle.pricer_value.specs.Value.{no_valuation, finishing_valuation, priced_by, swaption_priced}
use Rattle.pricer.specs.Pricer.{pricer_rules_on, pricer_outcome}
use Rattle.pricer.specs.Demand3.{pricer_sum_of, PricerRootLocated, PricerNoBracketExactly}

-- ---- rule 13
keeps : (w v : Valuation) → finishing_valuation w ≡ Ok v → w ≡ v
keeps w v e =
    let b = w.root.bracket in
    ends_so (finite w.value && finite w.after_step && finite w.root.rate && finite b.lower && finite b.upper && finite b.lower_sum && finite b.upper_sum) w e

otherwise : (w : Valuation) → finishing_valuation w ≡ Err R.NoBracket → ⊥
otherwise w e =
    let b = w.root.bracket in
    ends_otherwise (finite w.value && finite w.after_step && finite w.root.rate && finite b.lower && finite b.upper && finite b.lower_sum && finite b.upper_sum) w e

-- ---- the Newton step refuses by 11 alone
step_served : (o : Outcome Float) (rest : Float → Outcome Valuation) {v : Valuation} → following o rest ≡ Ok v → (s : Float) × (rest s ≡ Ok v)
step_served (Ok s) rest e = (s, e)
step_served (Err q) rest e = absurd (not_both e)

step_otherwise : (b : Bool) (x : Float) (rest : Float → Outcome Valuation) → ((s : Float) → rest s ≡ Err R.NoBracket → ⊥) → following (cond b (Err R.FlatDerivative) (Ok x)) rest ≡ Err R.NoBracket → ⊥
step_otherwise true x rest h e = let z = ap (λ o. answer_number (answer_of o)) e in omega arith
step_otherwise false x rest h e = h x e

-- ---- the terms priced: a search, and what follows it
module _ (option : SwaptionType) (deviation pt : Float) (cs affs bs ps owns : List Float) (notional side : Float) where
  value : Root → Float → Valuation
  value root s = record { value = components_of option (not (all_of Zero owns)) deviation pt s cs affs bs ps owns ⊗ notional ⊗ side; after_step = s; root = root }

  onward : Root → Outcome Valuation
  onward root = following (stepped root.rate (sums_of root.rate cs affs bs)) (λ s. finishing_valuation (value root s))

  onward_served : (root : Root) (v : Valuation) → onward root ≡ Ok v → (s : Float) × (value root s ≡ v)
  unfolding onward
  onward_served root v e =
      let s = step_served (stepped root.rate (sums_of root.rate cs affs bs)) (λ s. finishing_valuation (value root s)) e in
      (s.0, keeps (value root s.0) v s.1)

  onward_otherwise : (root : Root) → onward root ≡ Err R.NoBracket → ⊥
  unfolding onward stepped
  onward_otherwise root e =
      let sums = sums_of root.rate cs affs bs in
      step_otherwise (lt (abs_of sums.derivative) flat_limit) (root.rate ⊖ sums.objective ⊘ sums.derivative) (λ s. finishing_valuation (value root s)) (λ s. otherwise (value root s)) e

  -- what is served: its root is located, and its value is that of the components at the rate after the step
  pub record Priced (v : Valuation) : Type 0 where
    pub located : Located (coupon_sum cs affs bs) v.root
    pub value_is : v.value ≡ components_of option (not (all_of Zero owns)) deviation pt v.after_step cs affs bs ps owns ⊗ notional ⊗ side

  pub priced : (v : Valuation) → priced_by option deviation pt cs affs bs ps owns notional side ≡ Ok v → Priced v
  unfolding priced_by onward value
  priced v e =
      let r = root_located (coupon_sum cs affs bs) onward v e in
      let s = onward_served r.0 v r.2 in
      subst Priced s.1 (record { located = r.1; value_is = refl })

  unbracketed : priced_by option deviation pt cs affs bs ps owns notional side ≡ Err R.NoBracket → Unbracketed (coupon_sum cs affs bs)
  unfolding priced_by onward value
  unbracketed e = wants_bracket (coupon_sum cs affs bs) onward onward_otherwise e

  bracket_wanted : Unbracketed (coupon_sum cs affs bs) → priced_by option deviation pt cs affs bs ps owns notional side ≡ Err R.NoBracket
  unfolding priced_by onward value
  bracket_wanted u = no_bracket (coupon_sum cs affs bs) onward u

-- ---- the call
module _ (option : SwaptionType) (alpha : Float) (pls ss ts fs payments accruals owns : List Float) (strike t notional side : Float) where
  -- the terms on the factors at t, t + h and the payment times, and their price
  on : Float → Float → List Float → Outcome Valuation
  on pt p_plus ps =
      priced_by option (pricer_deviation_of (piecewise_variance_of alpha pls ss zero t)) pt (coefficients_of strike accruals) (affine_aList_of (piecewise_variance_of alpha pls ss zero t) (forward_of pt p_plus) pt (bs_of alpha t payments) ps) (bs_of alpha t payments) ps owns notional side

  -- ---- of any answer whose outcome is the one defined: `PricerRootLocated` and `PricerNoBracketExactly`
  module _ {o : Outcome Valuation} (is : o ≡ pricer_outcome option alpha pls ss ts fs payments accruals owns strike t notional side) where
    pub rooted : (v : Valuation) → o ≡ Ok v → RootFound (pricer_rules_on alpha pls ss ts fs payments accruals owns strike t notional side) ts fs payments t (pricer_sum_of alpha pls ss t payments accruals strike) v.root
    unfolding pricer_outcome swaption_priced on
    rooted v e =
        let s = searches (pricer_rules_on alpha pls ss ts fs payments accruals owns strike t notional side) ts fs payments t on tt (Ok v) tt (sym is ∙ e) in
        record { begun = s.begun; located = (priced _ _ _ _ _ _ _ _ _ _ v s.goes_on).located }

    pub refused_so : (o ≡ Err R.NoBracket) ↔ WantsBracket (pricer_rules_on alpha pls ss ts fs payments accruals owns strike t notional side) ts fs payments t (pricer_sum_of alpha pls ss t payments accruals strike)
    unfolding pricer_outcome swaption_priced on
    refused_so = (
      λ e. let s = searches (pricer_rules_on alpha pls ss ts fs payments accruals owns strike t notional side) ts fs payments t on tt (Err R.NoBracket) tt (sym is ∙ e) in
          record { begun = s.begun; unbracketed = unbracketed _ _ _ _ _ _ _ _ _ _ s.goes_on },
      λ w. is ∙ begins (pricer_rules_on alpha pls ss ts fs payments accruals owns strike t notional side) ts fs payments t on w.begun ∙ bracket_wanted _ _ _ _ _ _ _ _ _ _ w.unbracketed,
    )

  -- ---- all that the call promises of an answer whose outcome is the one defined
  pub promised : (r : Outcome Valuation) → r ≡ pricer_outcome option alpha pls ss ts fs payments accruals owns strike t notional side → record {
    answer : r ≡ pricer_outcome option alpha pls ss ts fs payments accruals owns strike t notional side;
    rooted : PricerRootLocated alpha pls ss ts fs payments accruals owns strike t notional side r;
    bracket : PricerNoBracketExactly alpha pls ss ts fs payments accruals owns strike t notional side r;
    report : reported no_valuation r ≡ reported no_valuation (pricer_outcome option alpha pls ss ts fs payments accruals owns strike t notional side);
  }
  promised r is = record { answer = is; rooted = rooted is; bracket = refused_so is; report = ap (reported no_valuation) is }
