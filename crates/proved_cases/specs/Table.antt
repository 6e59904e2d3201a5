-- Document 01, "Cases proved", as one table under one computed check.
use Rattle.std.specs.Prelude.{◌≡◌, ℕ, Bool, true, ◌&&◌, eqb, Float, Ok, Err}
use mathlib.Core.List.{List, [], ◌∷◌}
use Rattle.std.specs.Float.Ieee.{neg}
use Rattle.ieee.specs.Decimal.{decimal}
use Rattle.ieee.specs.Numbers.{zero, half, one, two, three, four}
use Rattle.ieee.specs.Same.{same}
use Rattle.ieee.specs.Fused.{fused_of}
use Rattle.ieee.specs.Sqrt.{sqrt_of}
use Rattle.math_elementary.specs.Simple.{signum_of}
use Rattle.math_exponential.specs.Exp.{exp_of}
use Rattle.math_elementary.specs.Ln.{ln_of}
use Rattle.math_normal.specs.NormCdf.{norm_cdf_of, norm_cdf_dual_of}
use Rattle.refusals.specs.Refusals.{Outcome, following, number_of, answer_of, answer_number, value_or}
use Rattle.pricer_critical_rate.specs.Find.{find_outcome}
use Rattle.pricer_formulas.specs.Newton.{sums_of, stepped}

-- ---- the numbers that specs/Numbers.antt of `ieee` does not have
abbrev minus_zero : Float
minus_zero = neg zero

abbrev minus_one : Float
minus_one = neg one

abbrev pub minus_half : Float
minus_half = neg half

abbrev seven : Float
seven = decimal 7 0

abbrev thirty_eight : Float
thirty_eight = decimal 38 0

abbrev minus_thirty_eight : Float
minus_thirty_eight = neg thirty_eight

-- ---- what is asked: a function at its arguments, or a search on terms. `N` is the f64 normal function, `N-dual` the DualFwd one
pub data Call : Type 0 where
  N N-dual exp ln sqrt signum : Float → Call
  fused : Float → Float → Float → Call
  -- the critical rate of terms, given by their coefficients, A and B, and the Newton step of kind 6 from a rate
  critical : List Float → List Float → List Float → Call
  newton : Float → List Float → List Float → List Float → Call

-- What the definitions answer; each public function is proved equal to its definition. A search is the call `find_critical_rate` of `pricer_critical_rate`. The Newton step is part of `swaption_value`.
abbrev pub answer : Call → Outcome Float
answer (N x) = Ok (norm_cdf_of x)
answer (N-dual x) = Ok (norm_cdf_dual_of x)
answer (exp x) = Ok (exp_of x)
answer (ln x) = Ok (ln_of x)
answer (sqrt x) = Ok (sqrt_of x)
answer (signum x) = Ok (signum_of x)
answer (fused a b c) = Ok (fused_of a b c)
answer (critical cs affs bs) = following (find_outcome cs affs bs) (λ v. Ok v.rate)
answer (newton rate cs affs bs) = stepped rate (sums_of rate cs affs bs)

-- a row: document 01's number and the value
pub record Case : Type 0 where
  pub asked : Call
  pub number : ℕ
  pub value : Float

-- ---- the table, in document 01's order
abbrev pub table : List Case
table =
    record { asked = N zero; number = 0; value = half }
    ∷ record { asked = N-dual zero; number = 0; value = half }
    ∷ record { asked = N thirty_eight; number = 0; value = one }
    ∷ record { asked = N-dual thirty_eight; number = 0; value = one }
    ∷ record { asked = N minus_thirty_eight; number = 0; value = zero }
    ∷ record { asked = N-dual minus_thirty_eight; number = 0; value = zero }
    ∷ record { asked = exp zero; number = 0; value = one }
    ∷ record { asked = ln one; number = 0; value = zero }
    ∷ record { asked = sqrt four; number = 0; value = two }
    ∷ record { asked = sqrt minus_zero; number = 0; value = minus_zero }
    ∷ record { asked = fused two three one; number = 0; value = seven }
    ∷ record { asked = critical (one ∷ []) (one ∷ []) (zero ∷ []); number = 0; value = minus_half }
    ∷ record { asked = newton minus_half (one ∷ []) (one ∷ []) (zero ∷ []); number = 11; value = zero }
    ∷ record { asked = critical (two ∷ []) (one ∷ []) (zero ∷ []); number = 10; value = zero }
    ∷ record { asked = critical (half ∷ []) (one ∷ []) (zero ∷ []); number = 10; value = zero }
    ∷ record { asked = critical (one ∷ minus_one ∷ []) (one ∷ one ∷ []) (one ∷ one ∷ []); number = 9; value = zero }
    ∷ record { asked = signum minus_zero; number = 0; value = minus_one }
    ∷ []

-- ---- the check, and the law of each row
abbrev pub gives : Outcome Float → ℕ → Float → Bool
gives (Ok v) number value = eqb 0 number && same v value
gives (Err r) number value = eqb (number_of r) number && same zero value

abbrev pub right : Case → Bool
right c = gives (answer c.asked) c.number c.value

abbrev pub all : List Case → Bool
all [] = true
all (c ∷ cs) = right c && all cs

-- what the check says of a row
abbrev pub Holds : Case → Type 0
Holds c = (answer_number (answer_of (answer c.asked)) ≡ c.number) × (value_or zero (answer c.asked) ≡ c.value)
