-- The same price on what no sigma changes, so that a fit works it once: the terms' coefficients, B, the curve's parts of ln A, and factors, share = 1 - exp(-2 × alpha × t), and deviation = √(share/(2 × alpha)). `price_ahead_lem`: it is `price_at`, bit for bit at every sigma.
use Rattle.std.specs.Prelude.{◌≡◌, refl, List, [], ◌∷◌, Float, Ok}
use Rattle.std.proofs.Common.{ap}
use Rattle.std.proofs.Math.Path.{fun_ext}
use Rattle.ieee.specs.Numbers.{zero}
use Rattle.ieee.specs.Fused.{fused_of}
use Rattle.refusals.specs.Refusals.{Outcome, following}
use Rattle.hullwhite_formulas.specs.HullWhite.{forward_of, stationary_share_of, half_variance_of, state_deviation_of, zcb_price_of, zcb_price_volatility_at, zcb_price_volatility_ahead, bond_put_of}
use Rattle.search_sum.specs.Sum.{coupon_sum}
use Rattle.search.specs.Rate.{critical_of}
use Rattle.search.specs.declared.Root.{Root}
use Rattle.search.specs.Values.{critical_outcome}
use Rattle.hullwhite_terms.specs.Terms.{coefficients_of, bs_of, a_list_of, curve_parts_of, a_list_at, a_list_ahead}
use Rattle.hullwhite_terms.specs.Swaption.{SwaptionTerms, terms_on}
use Rattle.hullwhite_jamshidian.specs.declared.price.SwaptionAhead.{SwaptionAhead}
use Rattle.hullwhite_jamshidian.specs.PricedSum.{model_sum_of}
use Rattle.hullwhite_jamshidian.specs.declared.price.Swaption.{Swaption}
use Rattle.hullwhite_jamshidian.specs.Price.{put_of, puts_onto, puts_of, price_at}

-- at an option time t whose factor is pt
abbrev pub ahead_of : Float → Float → Float → SwaptionAhead
ahead_of alpha t pt = record { alpha = alpha; share = stationary_share_of alpha t; deviation = state_deviation_of alpha t; p_t = pt }

-- a coupon's put from its A, its B and its factor
unfoldable pub put_ahead : SwaptionAhead → Float → Float → Float → Float → Float → Float
put_ahead ahead sigma r a b p = bond_put_of (zcb_price_volatility_at sigma b ahead.deviation) (zcb_price_of a b r) ahead.p_t p

unfoldable pub puts_ahead_onto : Float → SwaptionAhead → Float → Float → List Float → List Float → List Float → List Float → Float
puts_ahead_onto total ahead sigma r [] affs bs ps = total
puts_ahead_onto total ahead sigma r (c ∷ cs) [] bs ps = total
puts_ahead_onto total ahead sigma r (c ∷ cs) (a ∷ affs) [] ps = total
puts_ahead_onto total ahead sigma r (c ∷ cs) (a ∷ affs) (b ∷ bs) [] = total
puts_ahead_onto total ahead sigma r (c ∷ cs) (a ∷ affs) (b ∷ bs) (p ∷ ps) = puts_ahead_onto (fused_of c (put_ahead ahead sigma r a b p) total) ahead sigma r cs affs bs ps

unfoldable pub puts_ahead : SwaptionAhead → Float → Float → List Float → List Float → List Float → List Float → Float
unfolding puts_ahead_onto
puts_ahead ahead sigma r cs affs bs ps = puts_ahead_onto zero ahead sigma r cs affs bs ps

unfoldable pub price_ahead : SwaptionAhead → Float → List Float → List Float → List Float → List Float → Outcome Swaption
price_ahead ahead sigma cs bs curveParts ps =
    let affs = a_list_at (half_variance_of ahead.alpha sigma ahead.share) bs curveParts in
    following (critical_outcome (critical_of (coupon_sum cs affs bs))) (λ root. Ok (record { value = puts_ahead ahead sigma root.rate cs affs bs ps; root = root }))

-- on all the terms of a swaption
abbrev pub price_on : Float → Float → SwaptionTerms → Float → Outcome Swaption
price_on alpha t w sigma = price_ahead (ahead_of alpha t w.pt) sigma w.coefficients w.bs (curve_parts_of w.forward w.pt w.bs w.factors) w.factors

-- ---- the law
puts_onto_lem : (alpha t sigma forward pt r total : Float) (cs payments ps : List Float)
    → puts_ahead_onto total (ahead_of alpha t pt) sigma r cs (a_list_of alpha t sigma forward pt payments ps) (bs_of alpha t payments) ps ≡ puts_onto total alpha t sigma forward pt r cs payments ps
unfolding puts_ahead_onto puts_onto a_list_of bs_of put_ahead put_of
puts_onto_lem alpha t sigma forward pt r total [] payments ps = refl
puts_onto_lem alpha t sigma forward pt r total (c ∷ cs) [] ps = refl
puts_onto_lem alpha t sigma forward pt r total (c ∷ cs) (payment ∷ payments) [] = refl
puts_onto_lem alpha t sigma forward pt r total (c ∷ cs) (payment ∷ payments) (p ∷ ps) = rw (zcb_price_volatility_ahead alpha sigma t payment) (puts_onto_lem alpha t sigma forward pt r (fused_of c (put_of alpha t sigma forward pt r payment p) total) cs payments ps)

pub puts_ahead_lem : (alpha t sigma forward pt r : Float) (cs payments ps : List Float)
    → puts_ahead (ahead_of alpha t pt) sigma r cs (a_list_of alpha t sigma forward pt payments ps) (bs_of alpha t payments) ps ≡ puts_of alpha t sigma forward pt r cs payments ps
unfolding puts_ahead puts_of
puts_ahead_lem alpha t sigma forward pt r cs payments ps = puts_onto_lem alpha t sigma forward pt r zero cs payments ps

pub price_ahead_lem : (alpha : Float) (payments accruals : List Float) (strike t pt p_plus : Float) (ps : List Float) (sigma : Float)
    → price_on alpha t (terms_on alpha payments accruals strike t pt p_plus ps) sigma ≡ price_at alpha payments accruals strike t pt p_plus ps sigma
unfolding price_ahead price_at
price_ahead_lem alpha payments accruals strike t pt p_plus ps sigma =
    let valued : Float → Root → Outcome Swaption = λ v root. Ok (record { value = v; root = root }) in
    rw (a_list_ahead alpha t sigma (forward_of pt p_plus) pt payments ps)
    (ap
    (following (critical_outcome (critical_of (model_sum_of alpha t payments accruals strike sigma pt p_plus ps))))
    (fun_ext (λ (root : Root). ap (λ (v : Float). valued v root) (puts_ahead_lem alpha t sigma (forward_of pt p_plus) pt root.rate (coefficients_of strike accruals) payments ps))))
