-- The formulas of hullwhitemodel.rs that are no kind, as calls: B, A, zcb_price, zcb_price_volatility, short_rate_variance, the forward rate and theta. "In the formulas `t` is an option time, `T` or `S` a bond time."
use Rattle.std.specs.Prelude.{◌≡◌, cond, List, Float, Option}
use Rattle.std.specs.Float.Ieee.{lt}
use Rattle.ieee.specs.Rounded.{◌⊕◌, ◌⊖◌}
use Rattle.ieee.specs.Numbers.{zero, two}
use Rattle.ieee.specs.Fused.{fused_of}
use Rattle.refusals.specs.Refusals.{Outcome, unless, finishing}
use Rattle.curve.specs.Lookups.{factor_at, needing}
use Rattle.refusals.specs.Faults.{curve_faults}
use Rattle.hullwhite_formulas.specs.HullWhite.{h, b_of, forward_of, a_of, zcb_price_of, zcb_price_volatility_of, slope_of, theta_of, short_rate_variance_of}
use Rattle.hullwhite_model.specs.Rules.{no_faults, forward_rules, theta_rules}
use Rattle.hullwhite_options.specs.Rules.{option_rules}

unfoldable pub b_outcome : Float → Float → Float → Outcome Float
b_outcome alpha t T = unless (option_rules no_faults alpha t T zero zero) (finishing (b_of alpha t T))

unfoldable pub zcb_price_volatility_outcome : Float → Float → Float → Float → Outcome Float
zcb_price_volatility_outcome alpha sigma t T = unless (option_rules no_faults alpha t T sigma zero) (finishing (zcb_price_volatility_of alpha sigma t T))

unfoldable pub short_rate_variance_outcome : Float → Float → Float → Float → Outcome Float
short_rate_variance_outcome alpha t T sigma = unless (option_rules no_faults alpha t T sigma zero) (finishing (short_rate_variance_of alpha t T sigma))

-- A(t, T) wants the factors at t, T and t + h; b is B(t, T). What is then done with A is the rest's.
abbrev pub with_a : Float → List Float → List Float → Float → Float → Float → Float → (Float → Outcome Float) → Outcome Float
with_a alpha ts fs t T sigma b rest =
    needing (factor_at ts fs t) (λ pt.
    needing (factor_at ts fs T) (λ p_t.
    needing (factor_at ts fs (t ⊕ h)) (λ p_plus.
    rest (a_of alpha t sigma b (forward_of pt p_plus) pt p_t))))

-- for the contract of the part that finds A: what it found goes on as that
abbrev pub FoundA : Float → List Float → List Float → Float → Float → Float → Float → Option Float → Type 0
FoundA alpha ts fs t T sigma b found = (rest : Float → Outcome Float) → needing found rest ≡ with_a alpha ts fs t T sigma b rest

unfoldable pub a_priced : Float → List Float → List Float → Float → Float → Float → Outcome Float
a_priced alpha ts fs t T sigma = with_a alpha ts fs t T sigma (b_of alpha t T) finishing

unfoldable pub a_outcome : Float → List Float → List Float → Float → Float → Float → Outcome Float
a_outcome alpha ts fs t T sigma = unless (option_rules (curve_faults ts fs) alpha t T sigma zero) (a_priced alpha ts fs t T sigma)

-- the price at t of a bond that ends at T, at the short rate r
unfoldable pub zcb_priced : Float → List Float → List Float → Float → Float → Float → Float → Outcome Float
zcb_priced alpha ts fs r t T sigma = let b = b_of alpha t T in with_a alpha ts fs t T sigma b (λ a. finishing (zcb_price_of a b r))

unfoldable pub zcb_outcome : Float → List Float → List Float → Float → Float → Float → Float → Outcome Float
zcb_outcome alpha ts fs r t T sigma = unless (option_rules (curve_faults ts fs) alpha t T sigma r) (zcb_priced alpha ts fs r t T sigma)

-- the forward rate at t wants the factors at t and t + h
unfoldable pub forward_priced : List Float → List Float → Float → Outcome Float
forward_priced ts fs t =
    needing (factor_at ts fs t) (λ p.
    needing (factor_at ts fs (t ⊕ h)) (λ p_plus.
    finishing (forward_of p p_plus)))

unfoldable pub forward_outcome : List Float → List Float → Float → Outcome Float
forward_outcome ts fs t = unless (forward_rules (curve_faults ts fs) t) (forward_priced ts fs t)

-- theta: where t is above h the forward's slope is taken back to t - h, else ahead to t + 2 × h, that sum fused
unfoldable pub theta_from : Float → List Float → List Float → Float → Float → Float → Float → Outcome Float
theta_from alpha ts fs t sigma p p_plus =
    let forward = forward_of p p_plus in
    cond (lt h t)
    (needing (factor_at ts fs (t ⊖ h)) (λ p_minus. finishing (theta_of alpha t sigma forward (slope_of forward (forward_of p_minus p)))))
    (needing (factor_at ts fs (fused_of two h t)) (λ p_plus2. finishing (theta_of alpha t sigma forward (slope_of (forward_of p_plus p_plus2) forward))))

unfoldable pub theta_priced : Float → List Float → List Float → Float → Float → Outcome Float
theta_priced alpha ts fs t sigma =
    needing (factor_at ts fs t) (λ p.
    needing (factor_at ts fs (t ⊕ h)) (λ p_plus.
    theta_from alpha ts fs t sigma p p_plus))

unfoldable pub theta_outcome : Float → List Float → List Float → Float → Float → Outcome Float
theta_outcome alpha ts fs t sigma = unless (theta_rules (curve_faults ts fs) alpha t sigma) (theta_priced alpha ts fs t sigma)
