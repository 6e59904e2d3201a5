-- The DualFwd function as norm_cdf.rs writes it (specs/AsWritten.antt) is `norm_cdf_dual_of`. Assumes nothing.
use mathlib.Core.Path.{◌≡◌, refl, sym, ap, ap₂, ◌∙◌}
use mathlib.Core.Bool.{Bool, true, false, cond}
use Prim.Native.Nat.{ℕ, ◌*◌}
use native.Mathlib.Nat.{mul_comm}
use lib.Ieee.{Float, nan, inf, fin, binary64, up, down, unlike, round, sub, mul, neg, lt, of_bits}
use Rattle.ieee.specs.Rounded.{◌⊖◌, ◌⊗◌}
use Rattle.ieee.specs.Numbers.{zero, half, one, two, three, four}
use Rattle.math_elementary.specs.Simple.{abs_of}
use Rattle.math_exponential.specs.Exp.{exp_of}
use Rattle.math_exponential.proofs.Range.{round_neg}
use Rattle.math_hart.specs.Polynomials.{num_first, den_first, product_then_sum, hart_of}
use Rattle.math_normal.specs.NormCdf.{limit, threshold, tail_of, norm_by, norm_cdf_dual_of}
use Rattle.math_normal.specs.AsWritten.{cum_as_written, norm_cdf_dual_as_written}

-- ---- what changes no bit

swapped : (x y : Float) → x ⊗ y ≡ y ⊗ x
unfolding mul
swapped nan nan = refl
swapped nan (inf t) = refl
swapped nan (fin t n d) = refl
swapped (inf s) nan = refl
swapped (inf true) (inf true) = refl
swapped (inf true) (inf false) = refl
swapped (inf false) (inf true) = refl
swapped (inf false) (inf false) = refl
swapped (inf true) (fin true n d) = refl
swapped (inf true) (fin false n d) = refl
swapped (inf false) (fin true n d) = refl
swapped (inf false) (fin false n d) = refl
swapped (fin s m e) nan = refl
swapped (fin true m e) (inf true) = refl
swapped (fin true m e) (inf false) = refl
swapped (fin false m e) (inf true) = refl
swapped (fin false m e) (inf false) = refl
swapped (fin s m e) (fin t n d) = ap (λ (u : Bool). round binary64 u (m * up e * (n * up d)) (down e * down d)) (signs s t) ∙ ap₂ (λ (a c : ℕ). round binary64 (unlike t s) a c) (mul_comm (m * up e) (n * up d)) (mul_comm (down e) (down d))
  where
    signs : (s t : Bool) → unlike s t ≡ unlike t s
    signs true true = refl
    signs true false = refl
    signs false true = refl
    signs false false = refl

minus_square : (z : Float) → neg z ⊗ z ≡ neg (z ⊗ z)
unfolding mul neg
minus_square nan = refl
minus_square (inf true) = refl
minus_square (inf false) = refl
minus_square (fin true m e) = round_neg binary64 (m * up e * (m * up e)) (down e * down e)
minus_square (fin false m e) = round_neg binary64 (m * up e * (m * up e)) (down e * down e)

one_less_nought : one ⊖ zero ≡ one
unfolding sub of_bits
one_less_nought = refl

ones : (one ⊗ four ≡ four) × (one ⊗ three ≡ three) × (one ⊗ two ≡ two)
unfolding mul of_bits
ones = (refl, refl, refl)

cum_same : (z : Float) → cum_as_written z ≡ (let e = exp_of (neg z ⊗ z ⊗ half) in cond (lt z threshold) (hart_of product_then_sum z e) (tail_of z e))
cum_same z = rw (minus_square z, ones.0, ones.1, ones.2, swapped z num_first, swapped z den_first)

pub as_written : (x : Float) → norm_cdf_dual_as_written x ≡ norm_cdf_dual_of x
unfolding norm_by norm_cdf_dual_as_written
as_written x = go (lt limit (abs_of x)) (lt zero x)
  where
    whole : (past : Bool) → Float
    whole past = cond past zero (let z = abs_of x in let e = exp_of (neg z ⊗ z ⊗ half) in cond (lt z threshold) (hart_of product_then_sum z e) (tail_of z e))

    go : (past above : Bool) → cond past (cond above one zero) (cond above (one ⊖ cum_as_written (abs_of x)) (cum_as_written (abs_of x))) ≡ cond above (one ⊖ whole past) (whole past)
    go true true = sym one_less_nought
    go true false = refl
    go false true = ap (λ (c : Float). one ⊖ c) (cum_same (abs_of x))
    go false false = cum_same (abs_of x)
