-- The arguments at which exp is exact: ±0, the limits 710 and -746, and their neighbours. The rows are a promise of `exp`, under the check `exact_cases_lem`.
use Rattle.std.specs.Prelude.{false, T, List, [], ◌∷◌, Float}
use Rattle.std.specs.Float.{inf, binary64}
use Rattle.std.specs.Float.Ieee.{is_nan, lt, neg, add, sub, mul, div, of_int, of_bits}
use Rattle.ieee.specs.Decimal.{decimal}
use Rattle.ieee.specs.Numbers.{zero, one}
use Rattle.ieee.specs.Rows.{Row, right}
use Rattle.math_elementary.specs.Constants.{exp_top, exp_bottom}
use Rattle.math_exponential.specs.Exp.{exp_of, nearest_whole, series_of}

-- the f64 just below 710, and the one just above
abbrev pub just_below_top : Float
just_below_top = of_bits binary64 0x4086_2fff_ffff_ffff

abbrev pub just_above_top : Float
just_above_top = of_bits binary64 0x4086_3000_0000_0001

-- the f64 just above -746, and the one just below
abbrev pub just_above_bottom : Float
just_above_bottom = of_bits binary64 0xc087_4fff_ffff_ffff

abbrev pub just_below_bottom : Float
just_below_bottom = of_bits binary64 0xc087_5000_0000_0001

-- exp(±0) = 1. At 710, just below it and just above it the result is infinity: p × 2^512 × 2^512 is beyond the greatest f64.
-- At -746, just above it and just below it the result is +0: p × 2^-538 × 2^-538 is below half of the least.
abbrev pub exact_cases : List Row
exact_cases =
    record { at = zero; gives = one }
    ∷ record { at = neg zero; gives = one }
    ∷ record { at = just_below_top; gives = inf false }
    ∷ record { at = exp_top; gives = inf false }
    ∷ record { at = just_above_top; gives = inf false }
    ∷ record { at = just_above_bottom; gives = zero }
    ∷ record { at = exp_bottom; gives = zero }
    ∷ record { at = just_below_bottom; gives = zero }
    ∷ []

pub exact_cases_lem : T (right exp_of exact_cases)
unfolding exp_of nearest_whole series_of decimal is_nan lt neg add sub mul div of_int of_bits
exact_cases_lem = tt
