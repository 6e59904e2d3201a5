-- The functions that the numbers 1 to 14 of a record name. Whoever asks lets no other number through, so the last case is 14.
use Rattle.std.specs.Prelude.{◌≡◌, ℕ, cond, eqb, ◌<◌, ◌⊎◌, Float, Result, MatchResult}
use Rattle.ieee.specs.Numbers.{zero, one}
use Rattle.ieee.specs.Fused.{fused_of}
use Rattle.ieee.specs.Sqrt.{sqrt_of}
use Rattle.math_exponential.specs.Density.{density_of}
use Rattle.math_exponential.specs.Exp.{exp_of, exp_m1_of}
use Rattle.math_elementary.specs.Ln.{ln_of}
use Rattle.math_elementary.specs.Simple.{signum_of, midpoint_of, max_of, min_of, abs_of}
use Rattle.std.specs.Float.Ieee.Scale.{finite}
use Rattle.math_normal.specs.NormCdf.{norm_cdf_of, norm_cdf_dual_of}
use Rattle.test_vectors.specs.declared.function.Function.{Function}
use Rattle.test_vectors.specs.declared.function.Function.TheVariants.{Fused, Sqrt, Exp, ExpM1, Ln, NormPdf, NormCdf, NormCdfDual, Signum, Midpoint, Max, Min, Abs, IsFinite}
use Rattle.test_vectors.specs.declared.function.NoFunction.{NoFunction}

-- the function's number
abbrev pub number_of : Function → ℕ
number_of Fused = 1
number_of Sqrt = 2
number_of Exp = 3
number_of ExpM1 = 4
number_of Ln = 5
number_of NormPdf = 6
number_of NormCdf = 7
number_of NormCdfDual = 8
number_of Signum = 9
number_of Midpoint = 10
number_of Max = 11
number_of Min = 12
number_of Abs = 13
number_of IsFinite = 14

-- the result is the function that the number names, or that none has it
abbrev pub Names : ℕ → Result Function NoFunction → Type 0
Names n r = MatchResult r (λ f. number_of f ≡ n) (λ _. (n < 1) ⊎ (14 < n))

unfoldable pub result_of : ℕ → Float → Float → Float → Float
result_of n a b c =
    cond (eqb n 1) (fused_of a b c)
    (cond (eqb n 2) (sqrt_of a)
    (cond (eqb n 3) (exp_of a)
    (cond (eqb n 4) (exp_m1_of a)
    (cond (eqb n 5) (ln_of a)
    (cond (eqb n 6) (density_of a)
    (cond (eqb n 7) (norm_cdf_of a)
    (cond (eqb n 8) (norm_cdf_dual_of a)
    (cond (eqb n 9) (signum_of a)
    (cond (eqb n 10) (midpoint_of a b)
    (cond (eqb n 11) (max_of a b)
    (cond (eqb n 12) (min_of a b)
    (cond (eqb n 13) (abs_of a)
    (cond (finite a) one zero)))))))))))))
