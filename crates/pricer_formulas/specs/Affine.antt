-- `affine_a` and the state's deviation, by the state's variance: a DualFwd's value, an f64 operation for each written one.
use Rattle.std.specs.Prelude.{cond, List, [], ◌∷◌, Float}
use Rattle.std.specs.Float.Ieee.{lt}
use Rattle.ieee.specs.Rounded.{◌⊕◌, ◌⊖◌, ◌⊗◌, ◌⊘◌}
use Rattle.ieee.specs.Numbers.{zero, half}
use Rattle.ieee.specs.Sqrt.{sqrt_of}
use Rattle.math_exponential.specs.Exp.{exp_of}
use Rattle.math_elementary.specs.Ln.{ln_of}

-- √variance where the variance is above 0, else 0
unfoldable pub pricer_deviation_of : Float → Float
pricer_deviation_of variance = cond (lt zero variance) (sqrt_of variance) zero

-- exp((ln(P(T)/P(t)) + forward × b) - variance × (0.5 × b × b))
unfoldable pub affine_aOf : Float → Float → Float → Float → Float → Float
affine_aOf variance forward pt b p = exp_of (ln_of (p ⊘ pt) ⊕ forward ⊗ b ⊖ variance ⊗ (half ⊗ b ⊗ b))

unfoldable pub affine_aList_of : Float → Float → Float → List Float → List Float → List Float
affine_aList_of variance forward pt [] ps = []
affine_aList_of variance forward pt (b ∷ bs) [] = []
affine_aList_of variance forward pt (b ∷ bs) (p ∷ ps) = affine_aOf variance forward pt b p ∷ affine_aList_of variance forward pt bs ps
