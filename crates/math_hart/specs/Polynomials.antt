-- norm_cdf.rs, Hart's two polynomials and their quotient. Document 01: "f64 uses fused steps, the DualFwd one a product and then a sum." Each is the same text over its own step.
use Rattle.std.specs.Prelude.{Bool, true, false, List, [], ◌∷◌, ℕ, get_or, Float}
use Rattle.std.specs.Float.{nan}
use Rattle.ieee.specs.Rounded.{◌⊕◌, ◌⊗◌, ◌⊘◌}
use Rattle.ieee.specs.Decimal.{decimal}
use Rattle.ieee.specs.Fused.{fused_of}

-- ---- the coefficients, as norm_cdf.rs prints them

-- the numerator's coefficients, the highest power's first: 3.526_249_659_989_11e-2, then 0.700_383_064_443_688 and so on
abbrev pub num_first : Float
num_first = decimal 352624965998911 16

abbrev pub num_rest : List Float
num_rest = decimal 700383064443688 15 ∷ decimal 637396220353165 14 ∷ decimal 33912866078383 12 ∷ decimal 112079291497871 12 ∷ decimal 221213596169931 12 ∷ decimal 220206867912376 12 ∷ []

-- the denominator's: 8.838_834_764_831_84e-2, then 1.755_667_163_182_64 and so on
abbrev pub den_first : Float
den_first = decimal 883883476483184 16

abbrev pub den_rest : List Float
den_rest = decimal 175566716318264 14 ∷ decimal 16064177579207 12 ∷ decimal 867807322029461 13 ∷ decimal 296564248779674 12 ∷ decimal 637333633378831 12 ∷ decimal 793826512519948 12 ∷ decimal 440413735824752 12 ∷ []

-- the n-th of each, from 0 on
abbrev pub num_at : ℕ → Float
num_at n = get_or (num_first ∷ num_rest) n nan

abbrev pub den_at : ℕ → Float
den_at n = get_or (den_first ∷ den_rest) n nan

-- ---- the steps

-- a × z, then + c
abbrev pub product_then_sum : Float → Float → Float → Float
product_then_sum a z c = a ⊗ z ⊕ c

-- the step of the DualFwd function, and that of the f64 one
abbrev pub horner_step_of : Bool → Float → Float → Float → Float
horner_step_of true = product_then_sum
horner_step_of false = fused_of

-- a becomes a × z + c, by the step, for each c of the list in turn
abbrev pub horner : (Float → Float → Float → Float) → Float → Float → List Float → Float
horner step z a [] = a
horner step z a (c ∷ cs) = horner step z (step a z c) cs

-- ---- the quotient

-- below the threshold: e × num / den
abbrev pub hart_of : (Float → Float → Float → Float) → Float → Float → Float
hart_of step z e = e ⊗ horner step z num_first num_rest ⊘ horner step z den_first den_rest
