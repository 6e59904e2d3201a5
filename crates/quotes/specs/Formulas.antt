-- utils.rs: Black's and Bachelier's formulas for a quoted volatility, undiscounted, and a coupon of the annuity. Every operation rounds once, in the Rust's order.
use Rattle.std.specs.Prelude.{Float}
use Rattle.std.specs.Float.Ieee.{neg}
use Rattle.ieee.specs.Rounded.{◌⊖◌, ◌⊗◌, ◌⊘◌}
use Rattle.ieee.specs.Numbers.{half}
use Rattle.ieee.specs.Fused.{fused_of}
use Rattle.ieee.specs.Sqrt.{sqrt_of}
use Rattle.math_elementary.specs.Ln.{ln_of}
use Rattle.math_exponential.specs.Density.{density_of}
use Rattle.math_normal.specs.NormCdf.{norm_cdf_of}

-- d1 = 0.5 × vol × √tau + ln(F/K)/(vol × √tau), the sum fused
unfoldable pub quote_d1_of : Float → Float → Float → Float → Float
quote_d1_of fwd strike vol tau = fused_of (half ⊗ vol) (sqrt_of tau) (ln_of (fwd ⊘ strike) ⊘ (vol ⊗ sqrt_of tau))

-- d2 = d1 - vol × √tau, fused
unfoldable pub quote_d2_of : Float → Float → Float → Float
quote_d2_of vol tau d1 = fused_of vol (neg (sqrt_of tau)) d1

-- F × N(d1) - K × N(d2), fused
unfoldable pub black_call_of : Float → Float → Float → Float → Float
black_call_of fwd strike vol tau = let d1 = quote_d1_of fwd strike vol tau in fused_of fwd (norm_cdf_of d1) (neg (strike ⊗ norm_cdf_of (quote_d2_of vol tau d1)))

-- K × N(-d2) - F × N(-d1), fused
unfoldable pub black_put_of : Float → Float → Float → Float → Float
black_put_of fwd strike vol tau = let d1 = quote_d1_of fwd strike vol tau in fused_of strike (norm_cdf_of (neg (quote_d2_of vol tau d1))) (neg (fwd ⊗ norm_cdf_of (neg d1)))

-- (F - K) × N(d) + s × φ(d), fused, where s = vol × √tau and d = (F - K)/s
unfoldable pub bachelier_call_of : Float → Float → Float → Float → Float
bachelier_call_of fwd strike vol tau =
    let s = vol ⊗ sqrt_of tau in
    let d = (fwd ⊖ strike) ⊘ s in
    fused_of (fwd ⊖ strike) (norm_cdf_of d) (s ⊗ density_of d)

-- the annuity with one coupon more: accrual × factor + annuity, fused
unfoldable pub annuity_step : Float → Float → Float → Float
annuity_step annuity accrual factor = fused_of accrual factor annuity
