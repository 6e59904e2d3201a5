-- The table of specs/Table.antt: `table_holds` is the check, which antt computes; `row` turns it into the equations of each row.
use Rattle.std.specs.Prelude.{◌≡◌, refl, ℕ, T, eqb, Float, Ok, Err}
use Rattle.std.proofs.Common.{sym, ap, ◌∙◌, subst, arith, inl, inr, true≢false, eqb→eq}
use mathlib.Core.List.Memᴰ
use mathlib.Core.List.{List, [], ◌∷◌, Memᴰ}
use Rattle.std.specs.Float.Ieee.{add, sub, mul, div, neg, lt, le, eq, ne, is_nan, of_int, of_bits, size}
use Rattle.std.specs.Float.Ieee.Fits.{and_l, and_r}
use Rattle.ieee.specs.Decimal.{decimal}
use Rattle.ieee.specs.Rounded.{◌⊕◌}
use Rattle.ieee.specs.Numbers.{zero, one, two}
use Rattle.ieee.specs.Same.{same, same_is}
use Rattle.ieee.specs.Fused.{fused_of}
use Rattle.ieee.specs.Sqrt.{sqrt_of}
use Rattle.math_exponential.specs.Exp.{exp_of, nearest_whole, series_of}
use Rattle.math_elementary.specs.Ln.{ln_of, places, significand_of, exponent_of, odd_series_of}
use Rattle.math_normal.specs.NormCdf.{norm_by, upper_of}
use Rattle.refusals.specs.declared.refusals.Refusal.TheVariants as R
use Rattle.refusals.proofs.Numbered.{one_number}
use Rattle.refusals.specs.Refusals.{Outcome, following, first_of, number_of, answer_of, answer_number, value_or}
use Rattle.refusals.specs.Checks.{all_of, in_order, in_order_from}
use Rattle.curve.specs.Lookups.{factor_at, between_or}
use Rattle.hullwhite_formulas.specs.HullWhite.{h, b_of, forward_of}
use Rattle.hullwhite_parameters.specs.Variance.{piecewise_variance_of, variance_pieces_of, variance_piece_of, weight_of}
use Rattle.hullwhite_terms.specs.Terms.{coefficients_of, bs_of, factors_at}
use Rattle.search_sum.specs.Sum.{coupons_onto, coupon_sum}
use Rattle.search.specs.Rate.{rung_of, or_rung, ladder_of, bracket_moved_to, halve_of, then_halve, halvings_of, finish, from_ladders, critical_of}
use Rattle.search.specs.declared.Root.{Root}
use Rattle.search.specs.Values.{critical_outcome}
use Rattle.pricer_critical_rate.specs.Find.{find_outcome, found}
use Rattle.pricer_formulas.specs.declared.bond_option.SwaptionType.TheVariants as Swaption
use Rattle.pricer_formulas.specs.Affine.{pricer_deviation_of, affine_aOf, affine_aList_of}
use Rattle.pricer_formulas.specs.Newton.{bond_at, sums_after, sums_from, sums_of, stepped}
use Rattle.pricer_value.specs.Value.{priced_by, swaption_priced}
use Rattle.pricer.specs.Pricer.{pricer_outcome}
use Rattle.proved_cases.specs.Table.{minus_half, critical, newton, answer, Case, table, gives, right, all, Holds}

-- ---- the check, and the law of each row
pub table_holds : T (all table)
unfolding exp_of nearest_whole series_of ln_of places significand_of exponent_of odd_series_of fused_of sqrt_of norm_by upper_of find_outcome first_of all_of critical_of from_ladders finish halvings_of then_halve halve_of bracket_moved_to ladder_of or_rung rung_of coupon_sum coupons_onto stepped sums_of sums_from sums_after bond_at decimal add sub mul div neg lt le eq is_nan of_int of_bits size
table_holds = tt

given : (o : Outcome Float) (number : ℕ) (value : Float) → T (gives o number value) → (answer_number (answer_of o) ≡ number) × (value_or zero o ≡ value)
given (Ok v) number value h = (eqb→eq 0 number (and_l (eqb 0 number) (same v value) h), same_is v value (and_r (eqb 0 number) (same v value) h))
given (Err r) number value h =
    (eqb→eq (number_of r) number (and_l (eqb (number_of r) number) (same zero value) h), same_is zero value (and_r (eqb (number_of r) number) (same zero value) h))

each : (cs : List Case) → T (all cs) → (c : Case) → Memᴰ c cs → Holds c
each [] h c m = absurd (Memᴰ.not-nil m)
each (d ∷ ds) h c m = elim (Memᴰ.cases_cons m) [
  | inl e ↦ subst Holds (sym e) (given (answer d.asked) d.number d.value (and_l (right d) (all ds) h))
  | inr k ↦ each ds (and_r (right d) (all ds) h) c k
]

pub row : (c : Case) → Memᴰ c table → Holds c
row c m = each table table_holds c m

-- ---- "and in kind 6 refusal 11": the rows of the rate and of the step from it, put together, whatever the factors and the notional
record Rated (o : Outcome Root) : Type 0 where
  values : Root
  is : o ≡ Ok values
  rate_is : values.rate ≡ minus_half

zero_apart : zero ≡ minus_half → ⊥
unfolding eq neg of_bits
zero_apart e = true≢false (ap (λ (x : Float). eq x zero) e)

rated : (o : Outcome Root) → value_or zero (following o (λ v. Ok v.rate)) ≡ minus_half → Rated o
rated (Ok v) e = record { values = v; is = refl; rate_is = e }
rated (Err r) e = absurd (zero_apart e)

searched : (cs affs bs : List Float) → Rated (find_outcome cs affs bs) → Rated (critical_outcome (critical_of (coupon_sum cs affs bs)))
searched cs affs bs r = record { values = r.values; is = found cs affs bs r.is; rate_is = r.rate_is }

rate_row : Rated (critical_outcome (critical_of (coupon_sum (one ∷ []) (one ∷ []) (zero ∷ []))))
rate_row = searched (one ∷ []) (one ∷ []) (zero ∷ []) (rated (find_outcome (one ∷ []) (one ∷ []) (zero ∷ []))
    (row (record { asked = critical (one ∷ []) (one ∷ []) (zero ∷ []); number = 0; value = minus_half })
    (Memᴰ.tail (Memᴰ.tail (Memᴰ.tail (Memᴰ.tail (Memᴰ.tail (Memᴰ.tail (Memᴰ.tail (Memᴰ.tail (Memᴰ.tail (Memᴰ.tail (Memᴰ.tail (Memᴰ.head refl))))))))))))).1)

flat_is : (o : Outcome Float) → answer_number (answer_of o) ≡ 11 → o ≡ Err R.FlatDerivative
flat_is (Ok v) e = absurd (omega arith)
flat_is (Err r) e = ap Err (one_number r R.FlatDerivative e)

step_flat : stepped minus_half (sums_of minus_half (one ∷ []) (one ∷ []) (zero ∷ [])) ≡ Err R.FlatDerivative
step_flat = flat_is _ (row (record { asked = newton minus_half (one ∷ []) (one ∷ []) (zero ∷ []); number = 11; value = zero }) (Memᴰ.tail (Memᴰ.tail (Memᴰ.tail (Memᴰ.tail (Memᴰ.tail (Memᴰ.tail (Memᴰ.tail (Memᴰ.tail (Memᴰ.tail (Memᴰ.tail (Memᴰ.tail (Memᴰ.tail (Memᴰ.head refl)))))))))))))).0

pub payer_case : (deviation pt : Float) (ps owns : List Float) (notional side : Float)
    → priced_by Swaption.Payer deviation pt (one ∷ []) (one ∷ []) (zero ∷ []) ps owns notional side ≡ Err R.FlatDerivative
unfolding priced_by
payer_case deviation pt ps owns notional side = rw (rate_row.is, rate_row.rate_is, step_flat) refl

-- ---- and a whole call of kind 6 with that term: no accrual, a curve of 1 throughout, and an alpha so small that exp(-alpha × (T - t)) is 1 once rounded
abbrev tiny : Float
tiny = decimal 1 20

abbrev times : List Float
times = one ∷ (one ⊕ h) ∷ two ∷ []

abbrev variance : Float
variance = piecewise_variance_of tiny (one ∷ []) (one ∷ []) zero one

-- its term is the one above
pub payer_term : (coefficients_of zero (zero ∷ []) ≡ one ∷ []) × (affine_aList_of variance (forward_of one one) one (zero ∷ []) (one ∷ []) ≡ one ∷ []) × (bs_of tiny one (two ∷ []) ≡ zero ∷ [])
unfolding exp_of nearest_whole series_of ln_of places significand_of exponent_of odd_series_of fused_of coefficients_of bs_of b_of h forward_of piecewise_variance_of variance_pieces_of variance_piece_of weight_of affine_aList_of affine_aOf decimal add sub mul div neg lt le eq is_nan of_int of_bits size
payer_term = (refl, refl, refl)

-- the rules let it through, and the curve has its factors
payer_priced : pricer_outcome Swaption.Payer tiny (one ∷ []) (one ∷ []) times (one ∷ one ∷ one ∷ []) (two ∷ []) (zero ∷ []) (zero ∷ []) zero one one one
    ≡ priced_by Swaption.Payer (pricer_deviation_of variance) one (coefficients_of zero (zero ∷ [])) (affine_aList_of variance (forward_of one one) one (bs_of tiny one (two ∷ [])) (one ∷ [])) (bs_of tiny one (two ∷ [])) (one ∷ []) (zero ∷ []) one one
unfolding pricer_outcome swaption_priced first_of all_of in_order in_order_from factor_at between_or factors_at h decimal add div lt le eq ne neg is_nan of_bits size
payer_priced = refl

-- alpha; pillars (1, 1); curve; coupon (2, 0, 0); strike 0, option time 1, notional 1, side 1
pub payer_call : pricer_outcome Swaption.Payer tiny (one ∷ []) (one ∷ []) times (one ∷ one ∷ one ∷ []) (two ∷ []) (zero ∷ []) (zero ∷ []) zero one one one ≡ Err R.FlatDerivative
payer_call = payer_priced ∙ rw (payer_term.2, payer_term.1, payer_term.0) (payer_case (pricer_deviation_of variance) one (one ∷ []) (zero ∷ []) one one)
