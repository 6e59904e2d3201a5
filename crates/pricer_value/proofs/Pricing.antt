-- What a swaption comes to by the way its pricing went: the terms, the search, the Newton step. Assumes nothing.
use Rattle.std.specs.Prelude.{Result, Ok, Err}
use mathlib.Core.Path.{◌≡◌, refl, ◌∙◌}
use mathlib.Core.Bool.{Bool, not, ◌&&◌, cond}
use mathlib.Core.List.{List}
use lib.Ieee.{Float}
use lib.Ieee.Scale.{finite}
use Rattle.ieee.specs.Rounded.{◌⊗◌}
use Rattle.ieee.specs.Numbers.{zero}
use Rattle.refusals.specs.declared.refusals.Refusal.{Refusal}
use Rattle.refusals.specs.declared.refusals.Refusal.TheVariants as R
use Rattle.refusals.specs.declared.checks.Test.TheVariants.{Zero}
use Rattle.refusals.specs.Refusals.{Outcome, following}
use Rattle.refusals.specs.Checks.{all_of}
use Rattle.hullwhite_parameters.specs.Variance.{piecewise_variance_of}
use Rattle.search.specs.declared.Root.{Root}
use Rattle.search.specs.declared.Unfound.{Unfound}
use Rattle.search_sum.specs.Sum.{coupon_sum}
use Rattle.search.specs.Rate.{critical_of}
use Rattle.search.specs.Values.{root_finite, critical_outcome}
use Rattle.search.proofs.Answers.{and_root}
use Rattle.hullwhite_terms.specs.Swaption.{SwaptionTerms, terms_of, terms_outcome}
use Rattle.hullwhite_terms.proofs.OnTerms.{terms_refused, terms_served}
use Rattle.pricer_formulas.specs.declared.bond_option.SwaptionType.{SwaptionType}
use Rattle.pricer_formulas.specs.Affine.{pricer_deviation_of, affine_aList_of}
use Rattle.pricer_formulas.specs.Newton.{sums_of, stepped}
use Rattle.pricer_formulas.specs.Components.{components_of}
use Rattle.pricer_value.specs.declared.value.Valuation.{Valuation}
use Rattle.pricer_value.specs.Value.{finishing_valuation, priced_by, swaption_priced}
use Rattle.hullwhite_terms.specs.declared.swaption.TermsAhead.{TermsAhead}

-- ---- rule 13
pub finishes : (v : Valuation) {x y z b : Bool} → x ≡ finite v.value → y ≡ finite v.after_step → z ≡ root_finite v.root.rate v.root.bracket → (x && y && z) ≡ b → cond b (Ok v) (Err R.Overflow) ≡ finishing_valuation v
finishes v p q r h = rw (← and_root (finite v.value && finite v.after_step) v.root.rate v.root.bracket, ← p, ← q, ← r, h)

-- ---- the search, and what follows it: `x` and `y` by the answers of the search and of the step
module _ (option : SwaptionType) (deviation pt : Float) (cs affs bs ps owns : List Float) (notional side : Float) where
  abbrev ended : Root → Float → Float → Outcome Valuation
  ended root s value = finishing_valuation (record { value = value ⊗ notional ⊗ side; after_step = s; root = root })

  abbrev onward : Root → Outcome Valuation
  onward root = following (stepped root.rate (sums_of root.rate cs affs bs)) (λ s. ended root s (components_of option (not (all_of Zero owns)) deviation pt s cs affs bs ps owns))

  pub searched : (x : Result Root Unfound) {o : Outcome Valuation} → x ≡ critical_of (coupon_sum cs affs bs) → o ≡ following (critical_outcome x) onward → o ≡ priced_by option deviation pt cs affs bs ps owns notional side
  unfolding priced_by
  searched x e h = rw (← e) h

  pub step_refused : (root : Root) {q : Refusal} {o : Outcome Valuation} → Err q ≡ stepped root.rate (sums_of root.rate cs affs bs) → o ≡ Err q → o ≡ onward root
  step_refused root e h = rw (← e) h

  pub valued : (root : Root) {s sum : Float} {o : Outcome Valuation} → Ok s ≡ stepped root.rate (sums_of root.rate cs affs bs) → sum ≡ components_of option (not (all_of Zero owns)) deviation pt s cs affs bs ps owns → o ≡ ended root s sum → o ≡ onward root
  valued root e k h = rw (← e, ← k) h

-- ---- the terms
module _ (option : SwaptionType) (variance pt forward : Float) (cs bs ps owns : List Float) (notional side : Float) where
  pub terms_are : {deviation : Float} {affs : List Float} {o : Outcome Valuation} → affs ≡ affine_aList_of variance forward pt bs ps → deviation ≡ pricer_deviation_of variance
      → o ≡ priced_by option deviation pt cs affs bs ps owns notional side → o ≡ priced_by option (pricer_deviation_of variance) pt cs (affine_aList_of variance forward pt bs ps) bs ps owns notional side
  terms_are a d h = rw (← a, ← d) h

-- ---- the call, by what its terms came to, `r` with the lists beside it
module _ (option : SwaptionType) (alpha : Float) (pls ss ts fs payments accruals owns : List Float) (strike t notional side : Float) (r : Outcome TermsAhead) (cs bs ps : List Float) (is : terms_outcome r cs bs ps ≡ terms_of alpha ts fs payments accruals strike t) where
  abbrev on : Float → SwaptionTerms → Outcome Valuation
  on variance w = priced_by option (pricer_deviation_of variance) w.pt w.coefficients (affine_aList_of variance w.forward w.pt w.bs w.factors) w.bs w.factors owns notional side

  pub off_curve : {q : Refusal} → r ≡ Err q → Err q ≡ swaption_priced option alpha pls ss ts fs payments accruals owns strike t notional side
  unfolding swaption_priced
  off_curve e = terms_refused alpha ts fs payments accruals strike t _ (on (piecewise_variance_of alpha pls ss zero t)) (λ pt p_plus qs. refl) r cs bs ps is e

  pub on_curve : {ahead : TermsAhead} {variance : Float} {cs' bs' ps' : List Float} {o : Outcome Valuation} → r ≡ Ok ahead → variance ≡ piecewise_variance_of alpha pls ss zero t → cs' ≡ cs → bs' ≡ bs → ps' ≡ ps
      → o ≡ on variance (record { pt = ahead.p_t; forward = ahead.forward; coefficients = cs'; bs = bs'; factors = ps' }) → o ≡ swaption_priced option alpha pls ss ts fs payments accruals owns strike t notional side
  unfolding swaption_priced
  on_curve e v c b p h = h ∙ rw v (terms_served alpha ts fs payments accruals strike t _ (on (piecewise_variance_of alpha pls ss zero t)) (λ pt p_plus qs. refl) r cs bs ps is e c b p)
