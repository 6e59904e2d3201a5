-- For callers of `swaption_terms`: what a call comes to on its terms is what it comes to on its factors. Assumes nothing.
use Rattle.std.specs.Prelude.{Option, Some, None, Ok, Err}
use mathlib.Core.Path.{◌≡◌, refl, sym, ap, ◌∙◌}
use mathlib.Core.List.{List}
use lib.Ieee.{Float}
use Rattle.ieee.specs.Rounded.{◌⊕◌}
use Rattle.refusals.specs.declared.refusals.Refusal.{Refusal}
use Rattle.refusals.specs.Refusals.{Outcome, following}
use Rattle.curve.specs.Lookups.{factor_at}
use Rattle.hullwhite_formulas.specs.HullWhite.{h}
use Rattle.hullwhite_terms.specs.Terms.{factors_at}
use Rattle.hullwhite_terms.specs.Swaption.{SwaptionTerms, terms_on, terms_of, terms_outcome, with_factors}
use Rattle.hullwhite_terms.proofs.Callers.{looking}
use Rattle.hullwhite_terms.specs.declared.swaption.TermsAhead.{TermsAhead}

-- `rest` is what the call comes to on its factors, `on` what it comes to on its terms
module _ {B : Type 0} (alpha : Float) (ts fs payments accruals : List Float) (strike t : Float) (rest : Float → Float → List Float → Outcome B) (on : SwaptionTerms → Outcome B)
    (same : (pt p_plus : Float) (ps : List Float) → on (terms_on alpha payments accruals strike t pt p_plus ps) ≡ rest pt p_plus ps) where
  looked : (m n : Option Float) (f : Outcome (List Float)) → following (looking m n f (λ pt p_plus ps. Ok (terms_on alpha payments accruals strike t pt p_plus ps))) on ≡ looking m n f rest
  looked (Some pt) (Some p_plus) (Ok ps) = same pt p_plus ps
  looked (Some pt) (Some p_plus) (Err q) = refl
  looked (Some pt) None f = refl
  looked None n f = refl

  on_terms : following (terms_of alpha ts fs payments accruals strike t) on ≡ with_factors ts fs payments t rest
  unfolding terms_of
  on_terms = looked (factor_at ts fs t) (factor_at ts fs (t ⊕ h)) (factors_at ts fs payments)

  -- `r` is the answer, and beside it are the lists that were lent
  module _ (r : Outcome TermsAhead) (cs bs ps : List Float) (is : terms_outcome r cs bs ps ≡ terms_of alpha ts fs payments accruals strike t) where
    pub terms_refused : {q : Refusal} → r ≡ Err q → Err q ≡ with_factors ts fs payments t rest
    terms_refused e = ap (λ (x : Outcome TermsAhead). following (terms_outcome x cs bs ps) on) (sym e) ∙ ap (λ (o : Outcome SwaptionTerms). following o on) is ∙ on_terms

    pub terms_served : {ahead : TermsAhead} {cs' bs' ps' : List Float} → r ≡ Ok ahead → cs' ≡ cs → bs' ≡ bs → ps' ≡ ps
        → on (record { pt = ahead.p_t; forward = ahead.forward; coefficients = cs'; bs = bs'; factors = ps' }) ≡ with_factors ts fs payments t rest
    terms_served e c b p = rw (c, b, p) (ap (λ (x : Outcome TermsAhead). following (terms_outcome x cs bs ps) on) (sym e) ∙ ap (λ (o : Outcome SwaptionTerms). following o on) is ∙ on_terms)
