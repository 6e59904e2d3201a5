-- The DualFwd function as norm_cdf.rs writes it, an f64 operation for each written one. It differs from `norm_cdf_dual_of` in four places that change no bit, a promise of `norm_cdf_dual`:
-- e is exp((-(z × z)) × 0.5), the first product of each polynomial is z × coefficient, n / b is (1 × n) / b, and above 37 the results are written 1 and 0.
use Rattle.std.specs.Prelude.{cond, List, [], ◌∷◌, Float}
use Rattle.std.specs.Float.Ieee.{neg, lt}
use Rattle.ieee.specs.Rounded.{◌⊕◌, ◌⊖◌, ◌⊗◌, ◌⊘◌}
use Rattle.ieee.specs.Numbers.{zero, half, one, two, three, four}
use Rattle.math_elementary.specs.Constants.{sqrt2pi}
use Rattle.math_elementary.specs.Simple.{abs_of}
use Rattle.math_exponential.specs.Exp.{exp_of}
use Rattle.math_hart.specs.Polynomials.{num_first, num_rest, den_first, den_rest, product_then_sum, horner}
use Rattle.math_normal.specs.NormCdf.{limit, threshold, tail_start}

-- the first step's product is z × a; the later ones are a × z
abbrev pub first_swapped : Float → Float → List Float → Float
first_swapped z a [] = a
first_swapped z a (c ∷ cs) = horner product_then_sum z (z ⊗ a ⊕ c) cs

abbrev pub hart_as_written : Float → Float → Float
hart_as_written z e = e ⊗ first_swapped z num_first num_rest ⊘ first_swapped z den_first den_rest

abbrev pub tail_as_written : Float → Float → Float
tail_as_written z e =
    let b0 = z ⊕ tail_start in
    let b1 = z ⊕ (one ⊗ four) ⊘ b0 in
    let b2 = z ⊕ (one ⊗ three) ⊘ b1 in
    let b3 = z ⊕ (one ⊗ two) ⊘ b2 in
    let b4 = z ⊕ one ⊘ b3 in
    e ⊘ (b4 ⊗ sqrt2pi)

abbrev pub cum_as_written : Float → Float
cum_as_written z = let e = exp_of (neg (z ⊗ z) ⊗ half) in cond (lt z threshold) (hart_as_written z e) (tail_as_written z e)

unfoldable pub norm_cdf_dual_as_written : Float → Float
norm_cdf_dual_as_written x =
    let z = abs_of x in
    let above = lt zero x in
    cond (lt limit z) (cond above one zero) (cond above (one ⊖ cum_as_written z) (cum_as_written z))
