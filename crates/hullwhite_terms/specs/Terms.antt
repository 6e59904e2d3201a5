-- The terms of a swaption on a swap with the strike K: coefficients, B, A and factors, a coupon at a time, as `HullWhite::swaption_price` makes them. (`swaption_value` has the same coefficients and B, and another A.)
use Rattle.std.specs.Prelude.{◌≡◌, refl, Bool, true, false, List, [], ◌∷◌, Float, Ok}
use Rattle.std.proofs.Common.{ap}
use Rattle.ieee.specs.Rounded.{◌⊗◌}
use Rattle.ieee.specs.Numbers.{one}
use Rattle.ieee.specs.Fused.{fused_of}
use Rattle.refusals.specs.Refusals.{Outcome, prepend}
use Rattle.curve.specs.Lookups.{factor_at, needing}
use Rattle.hullwhite_formulas.specs.HullWhite.{b_of, a_of, stationary_share_of, half_variance_of, curve_part_of, a_at, a_ahead}

-- accrual × K; the last coupon's is accrual × K + 1, fused
abbrev pub coefficient_at : Bool → Float → Float → Float
coefficient_at true accrual strike = fused_of accrual strike one
coefficient_at false accrual strike = accrual ⊗ strike

unfoldable pub coefficients_of : Float → List Float → List Float
coefficients_of strike [] = []
coefficients_of strike (accrual ∷ []) = coefficient_at true accrual strike ∷ []
coefficients_of strike (accrual ∷ next ∷ accruals) = coefficient_at false accrual strike ∷ coefficients_of strike (next ∷ accruals)

-- B(t, T) of each payment time T
unfoldable pub bs_of : Float → Float → List Float → List Float
bs_of alpha t [] = []
bs_of alpha t (payment ∷ payments) = b_of alpha t payment ∷ bs_of alpha t payments

-- A(t, T) of each payment time T, as `HullWhite::A` writes it: from the forward rate at t, and the factors at t and at T
unfoldable pub a_list_of : Float → Float → Float → Float → Float → List Float → List Float → List Float
a_list_of alpha t sigma forward pt [] ps = []
a_list_of alpha t sigma forward pt (payment ∷ payments) [] = []
a_list_of alpha t sigma forward pt (payment ∷ payments) (p ∷ ps) = a_of alpha t sigma (b_of alpha t payment) forward pt p ∷ a_list_of alpha t sigma forward pt payments ps

-- the factor at each payment time, or refusal 8
unfoldable pub factors_at : List Float → List Float → List Float → Outcome (List Float)
factors_at ts fs [] = Ok []
factors_at ts fs (payment ∷ payments) = needing (factor_at ts fs payment) (λ p. prepend p (factors_at ts fs payments))

-- ---- worked ahead: what no sigma changes is worked once, and A of each term from it at each sigma

-- the curve's part of each ln A(t, T), which no sigma changes, from B(t, T) and the factor at T
unfoldable pub curve_parts_of : Float → Float → List Float → List Float → List Float
curve_parts_of forward pt [] ps = []
curve_parts_of forward pt (b ∷ bs) [] = []
curve_parts_of forward pt (b ∷ bs) (p ∷ ps) = curve_part_of b forward pt p ∷ curve_parts_of forward pt bs ps

-- A(t, T) of each term at a sigma, from half the state's variance at t for that sigma
unfoldable pub a_list_at : Float → List Float → List Float → List Float
a_list_at halfVariance [] curveParts = []
a_list_at halfVariance (b ∷ bs) [] = []
a_list_at halfVariance (b ∷ bs) (curvePart ∷ curveParts) = a_at halfVariance b curvePart ∷ a_list_at halfVariance bs curveParts

-- The A worked ahead are those of `HullWhite::A`, bit for bit at every sigma.
pub a_list_ahead : (alpha t sigma forward pt : Float) (payments ps : List Float)
    → a_list_at (half_variance_of alpha sigma (stationary_share_of alpha t)) (bs_of alpha t payments) (curve_parts_of forward pt (bs_of alpha t payments) ps) ≡ a_list_of alpha t sigma forward pt payments ps
unfolding bs_of a_list_of curve_parts_of a_list_at
a_list_ahead alpha t sigma forward pt [] ps = refl
a_list_ahead alpha t sigma forward pt (payment ∷ payments) [] = refl
a_list_ahead alpha t sigma forward pt (payment ∷ payments) (p ∷ ps) = rw (a_ahead alpha t sigma (b_of alpha t payment) forward pt p) (ap (λ (rest : List Float). a_of alpha t sigma (b_of alpha t payment) forward pt p ∷ rest) (a_list_ahead alpha t sigma forward pt payments ps))
