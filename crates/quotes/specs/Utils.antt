-- utils.rs as calls: d1 and d2, Black's call and put, Bachelier's call, and the annuity over given coupons.
use Rattle.std.specs.Prelude.{true, false, cond, ◌&&◌, List, [], ◌∷◌, Float, Ok, Err}
use Rattle.std.specs.Float.Ieee.Scale.{finite}
use Rattle.ieee.specs.Numbers.{zero}
use Rattle.refusals.specs.declared.refusals.Refusal.TheVariants as R
use Rattle.refusals.specs.Refusals.{Outcome, unless, finishing}
use Rattle.curve.specs.Lookups.{factor_at, needing}
use Rattle.refusals.specs.Faults.{curve_faults, coupon_faults}
use Rattle.quotes.specs.Formulas.{quote_d1_of, quote_d2_of, black_call_of, black_put_of, bachelier_call_of, annuity_step}
use Rattle.quotes.specs.Rules.{quote_rules, annuity_rules}
use Rattle.quotes.specs.declared.utils.D1D2.{D1D2}

-- beside a refusal's number
abbrev pub no_d1_d2 : D1D2
no_d1_d2 = record { d1 = zero; d2 = zero }

-- d1 and d2; rule 13 looks at both
unfoldable pub d1d2_worked : Float → Float → Float → Float → Outcome D1D2
d1d2_worked fwd strike vol tau =
    let d1 = quote_d1_of fwd strike vol tau in
    let d2 = quote_d2_of vol tau d1 in
    cond (finite d1 && finite d2) (Ok (record { d1 = d1; d2 = d2 })) (Err R.Overflow)

unfoldable pub d1d2_outcome : Float → Float → Float → Float → Outcome D1D2
d1d2_outcome fwd strike vol tau = unless (quote_rules true fwd strike vol tau) (d1d2_worked fwd strike vol tau)

unfoldable pub black_call_outcome : Float → Float → Float → Float → Outcome Float
black_call_outcome fwd strike vol tau = unless (quote_rules true fwd strike vol tau) (finishing (black_call_of fwd strike vol tau))

unfoldable pub black_put_outcome : Float → Float → Float → Float → Outcome Float
black_put_outcome fwd strike vol tau = unless (quote_rules true fwd strike vol tau) (finishing (black_put_of fwd strike vol tau))

unfoldable pub bachelier_call_outcome : Float → Float → Float → Float → Outcome Float
bachelier_call_outcome fwd strike vol tau = unless (quote_rules false fwd strike vol tau) (finishing (bachelier_call_of fwd strike vol tau))

-- the annuity from `sum` on: each coupon wants the factor at its payment time
unfoldable pub annuity_from : List Float → List Float → Float → List Float → List Float → Outcome Float
annuity_from ts fs sum [] accruals = finishing sum
annuity_from ts fs sum (payment ∷ payments) [] = finishing sum
annuity_from ts fs sum (payment ∷ payments) (accrual ∷ accruals) = needing (factor_at ts fs payment) (λ p. annuity_from ts fs (annuity_step sum accrual p) payments accruals)

unfoldable pub annuity_priced : List Float → List Float → List Float → List Float → Outcome Float
unfolding annuity_from
annuity_priced ts fs payments accruals = annuity_from ts fs zero payments accruals

unfoldable pub annuity_outcome : List Float → List Float → List Float → List Float → Outcome Float
annuity_outcome ts fs payments accruals = unless (annuity_rules (curve_faults ts fs) (coupon_faults payments accruals)) (annuity_priced ts fs payments accruals)
