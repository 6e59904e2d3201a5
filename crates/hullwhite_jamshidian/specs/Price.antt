-- A swaption's price at a sigma (`HullWhite::swaption_price`): the search for the critical rate over the terms, then the sum of coefficient × put, each put struck at the bond's price at that rate.
use Rattle.std.specs.Prelude.{◌&&◌, cond, List, [], ◌∷◌, Float, Ok, Err}
use Rattle.std.specs.Float.Ieee.Scale.{finite}
use Rattle.ieee.specs.Numbers.{zero}
use Rattle.ieee.specs.Fused.{fused_of}
use Rattle.refusals.specs.declared.refusals.Refusal.TheVariants as R
use Rattle.refusals.specs.Refusals.{Outcome, following}
use Rattle.hullwhite_formulas.specs.HullWhite.{b_of, forward_of, a_of, zcb_price_of, zcb_price_volatility_of, bond_put_of}
use Rattle.search.specs.Rate.{critical_of}
use Rattle.search.specs.Values.{no_root, critical_outcome}
use Rattle.hullwhite_terms.specs.Terms.{coefficients_of}
use Rattle.hullwhite_jamshidian.specs.PricedSum.{model_sum_of}
use Rattle.hullwhite_jamshidian.specs.declared.price.Swaption.{Swaption}

-- beside a refusal's number, and of a swap without coupons
abbrev pub no_swaption : Swaption
no_swaption = record { value = zero; root = no_root }

-- a coupon's put, `bond_put_price`: struck at the bond's price A(t, T) × exp(-B(t, T) × r), under `zcb_price_volatility`; p is the factor at T
unfoldable pub put_of : Float → Float → Float → Float → Float → Float → Float → Float → Float
put_of alpha t sigma forward pt r T p = bond_put_of (zcb_price_volatility_of alpha sigma t T) (zcb_price_of (a_of alpha t sigma (b_of alpha t T) forward pt p) (b_of alpha t T) r) pt p

-- the puts that are left, added to a total: coefficient × put + total, fused
unfoldable pub puts_onto : Float → Float → Float → Float → Float → Float → Float → List Float → List Float → List Float → Float
puts_onto total alpha t sigma forward pt r [] payments ps = total
puts_onto total alpha t sigma forward pt r (c ∷ cs) [] ps = total
puts_onto total alpha t sigma forward pt r (c ∷ cs) (payment ∷ payments) [] = total
puts_onto total alpha t sigma forward pt r (c ∷ cs) (payment ∷ payments) (p ∷ ps) = puts_onto (fused_of c (put_of alpha t sigma forward pt r payment p) total) alpha t sigma forward pt r cs payments ps

unfoldable pub puts_of : Float → Float → Float → Float → Float → Float → List Float → List Float → List Float → Float
unfolding puts_onto
puts_of alpha t sigma forward pt r cs payments ps = puts_onto zero alpha t sigma forward pt r cs payments ps

-- the price at a sigma, on the factors pt at t, p_plus at t + h and ps at the payment times: the critical rate of the priced coupon sum, then the puts at it. Refusals 9 and 10 are the search's
unfoldable pub price_at : Float → List Float → List Float → Float → Float → Float → Float → List Float → Float → Outcome Swaption
price_at alpha payments accruals strike t pt p_plus ps sigma =
    following (critical_outcome (critical_of (model_sum_of alpha t payments accruals strike sigma pt p_plus ps))) (λ root.
    Ok (record { value = puts_of alpha t sigma (forward_of pt p_plus) pt root.rate (coefficients_of strike accruals) payments ps; root = root }))

-- rule 13: "A float of the answer, bracket sums .. and the critical rate .. included, is not finite"
abbrev pub finishing_swaption : Swaption → Outcome Swaption
finishing_swaption v =
    let b = v.root.bracket in
    cond (finite v.value && finite v.root.rate && finite b.lower && finite b.upper && finite b.lower_sum && finite b.upper_sum) (Ok v) (Err R.Overflow)
