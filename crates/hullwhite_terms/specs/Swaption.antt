-- A swaption's factors on a curve of times ts and factors fs, and the terms on them.
use Rattle.std.specs.Prelude.{List, Float, Ok}
use Rattle.ieee.specs.Rounded.{◌⊕◌}
use Rattle.refusals.specs.Refusals.{Outcome, following}
use Rattle.curve.specs.Lookups.{factor_at, needing}
use Rattle.hullwhite_formulas.specs.HullWhite.{h, forward_of}
use Rattle.hullwhite_terms.specs.Terms.{coefficients_of, bs_of, factors_at}
use Rattle.hullwhite_terms.specs.declared.swaption.TermsAhead.{TermsAhead}

-- the factor pt at t, p_plus at t + h, and ps at the payment times, looked up in this order; then as the rest says of them
abbrev pub with_factors : {A : Type 0} → List Float → List Float → List Float → Float → (Float → Float → List Float → Outcome A) → Outcome A
with_factors ts fs payments t rest =
    needing (factor_at ts fs t) (λ pt.
    needing (factor_at ts fs (t ⊕ h)) (λ p_plus.
    following (factors_at ts fs payments) (λ ps.
    rest pt p_plus ps)))

-- the factor and the forward rate at the option time, and a list a coupon: coefficients, B, factors
pub record SwaptionTerms : Type 0 where
  pub pt : Float
  pub forward : Float
  pub coefficients : List Float
  pub bs : List Float
  pub factors : List Float

-- the terms on the factors
abbrev pub terms_on : Float → List Float → List Float → Float → Float → Float → Float → List Float → SwaptionTerms
terms_on alpha payments accruals strike t pt p_plus ps = record { pt = pt; forward = forward_of pt p_plus; coefficients = coefficients_of strike accruals; bs = bs_of alpha t payments; factors = ps }

-- the factors, then the terms
unfoldable pub terms_of : Float → List Float → List Float → List Float → List Float → Float → Float → Outcome SwaptionTerms
terms_of alpha ts fs payments accruals strike t = with_factors ts fs payments t (λ pt p_plus ps. Ok (terms_on alpha payments accruals strike t pt p_plus ps))

-- of an answer of the code, and the lists beside it
abbrev pub terms_outcome : Outcome TermsAhead → List Float → List Float → List Float → Outcome SwaptionTerms
terms_outcome ahead cs bs ps = following ahead (λ a. Ok (record { pt = a.p_t; forward = a.forward; coefficients = cs; bs = bs; factors = ps }))
