-- Kinds 6 and 7 behind their rules: the value, payer or receiver, on pillars (times pls, volatilities ss), a curve (times ts, factors fs) and coupons (payment times, accruals, own factors): strike, option time, notional, side.
use Rattle.std.specs.Prelude.{not, ◌&&◌, cond, List, Float, Ok, Err}
use Rattle.std.specs.Float.Ieee.Scale.{finite}
use Rattle.ieee.specs.Rounded.{◌⊗◌}
use Rattle.ieee.specs.Numbers.{zero}
use Rattle.refusals.specs.declared.checks.Test.TheVariants.{Zero}
use Rattle.refusals.specs.declared.refusals.Refusal.TheVariants as R
use Rattle.refusals.specs.Refusals.{Outcome, following}
use Rattle.refusals.specs.Checks.{all_of}
use Rattle.hullwhite_formulas.specs.HullWhite.{forward_of}
use Rattle.hullwhite_parameters.specs.Variance.{piecewise_variance_of}
use Rattle.search_sum.specs.Sum.{coupon_sum}
use Rattle.search.specs.Rate.{critical_of}
use Rattle.search.specs.Values.{no_root, critical_outcome}
use Rattle.hullwhite_terms.specs.Terms.{coefficients_of, bs_of}
use Rattle.hullwhite_terms.specs.Swaption.{with_factors}
use Rattle.pricer_formulas.specs.declared.bond_option.SwaptionType.{SwaptionType}
use Rattle.pricer_formulas.specs.Affine.{pricer_deviation_of, affine_aList_of}
use Rattle.pricer_formulas.specs.Newton.{sums_of, stepped}
use Rattle.pricer_formulas.specs.Components.{components_of}
use Rattle.pricer_value.specs.declared.value.Valuation.{Valuation}

-- beside a refusal's number
abbrev pub no_valuation : Valuation
no_valuation = record { value = zero; after_step = zero; root = no_root }

-- rule 13 looks at the value, the rate after and before the step, and the bracket with its sums
abbrev pub finishing_valuation : Valuation → Outcome Valuation
finishing_valuation v =
    let b = v.root.bracket in
    cond (finite v.value && finite v.after_step && finite v.root.rate && finite b.lower && finite b.upper && finite b.lower_sum && finite b.upper_sum) (Ok v) (Err R.Overflow)

-- the search, whose refusals are 9 and 10, the Newton step, which may be refused by 11, the components at the stepped rate, × notional × side
unfoldable pub priced_by : SwaptionType → Float → Float → List Float → List Float → List Float → List Float → List Float → Float → Float → Outcome Valuation
priced_by option deviation pt cs affs bs ps owns notional side =
    following (critical_outcome (critical_of (coupon_sum cs affs bs))) (λ root.
    following (stepped root.rate (sums_of root.rate cs affs bs)) (λ s.
    finishing_valuation (record { value = components_of option (not (all_of Zero owns)) deviation pt s cs affs bs ps owns ⊗ notional ⊗ side; after_step = s; root = root })))

-- the factors at t, t + h and the payment times; the variance of the state from 0 to t; the terms
unfoldable pub swaption_priced : SwaptionType → Float → List Float → List Float → List Float → List Float → List Float → List Float → List Float → Float → Float → Float → Float → Outcome Valuation
swaption_priced option alpha pls ss ts fs payments accruals owns strike t notional side =
    with_factors ts fs payments t (λ pt p_plus ps.
    let variance = piecewise_variance_of alpha pls ss zero t in
    let bs = bs_of alpha t payments in
    priced_by option (pricer_deviation_of variance) pt (coefficients_of strike accruals) (affine_aList_of variance (forward_of pt p_plus) pt bs ps) bs ps owns notional side)
