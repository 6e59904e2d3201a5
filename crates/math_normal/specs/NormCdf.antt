-- norm_cdf.rs, both functions. Document 01: "f64 uses fused steps, the DualFwd one a product and then a sum." Each is the same text over its own step.
use Rattle.std.specs.Prelude.{cond, Float}
use Rattle.std.specs.Float.Ieee.{neg, lt}
use Rattle.ieee.specs.Rounded.{◌⊕◌, ◌⊖◌, ◌⊗◌, ◌⊘◌}
use Rattle.ieee.specs.Decimal.{decimal}
use Rattle.ieee.specs.Numbers.{zero, half, one, two, three, four}
use Rattle.ieee.specs.Fused.{fused_of}
use Rattle.math_elementary.specs.Constants.{sqrt2pi}
use Rattle.math_elementary.specs.Simple.{abs_of}
use Rattle.math_exponential.specs.Exp.{exp_of}
use Rattle.math_hart.specs.Polynomials.{product_then_sum, hart_of}

-- ---- the constants, as norm_cdf.rs prints them

-- 37.0
abbrev pub limit : Float
limit = decimal 37 0

-- HART_THRESHOLD, 7.071_067_811_865_475
abbrev pub threshold : Float
threshold = decimal 7071067811865475 15

-- 0.65
abbrev pub tail_start : Float
tail_start = decimal 65 2

-- ---- what lies above z

-- from the threshold up: b is z + 0.65, then z + 4/b, z + 3/b, z + 2/b, z + 1/b; the result is e / (b × SQRT_2PI)
abbrev pub tail_of : Float → Float → Float
tail_of z e =
    let b0 = z ⊕ tail_start in
    let b1 = z ⊕ four ⊘ b0 in
    let b2 = z ⊕ three ⊘ b1 in
    let b3 = z ⊕ two ⊘ b2 in
    let b4 = z ⊕ one ⊘ b3 in
    e ⊘ (b4 ⊗ sqrt2pi)

-- above 37 it is 0; else e is exp(-z × z × 0.5), and the threshold decides
unfoldable pub upper_of : (Float → Float → Float → Float) → Float → Float
upper_of step z =
    cond (lt limit z) zero
    (let e = exp_of (neg z ⊗ z ⊗ half) in
    cond (lt z threshold) (hart_of step z e) (tail_of z e))

-- ---- the two functions: above 0, one less what lies above |x|

unfoldable pub norm_by : (Float → Float → Float → Float) → Float → Float
unfolding upper_of
norm_by step x = let cum = upper_of step (abs_of x) in cond (lt zero x) (one ⊖ cum) cum

-- the f64 one
abbrev pub norm_cdf_of : Float → Float
norm_cdf_of = norm_by fused_of

-- the DualFwd one
abbrev pub norm_cdf_dual_of : Float → Float
norm_cdf_dual_of = norm_by product_then_sum
