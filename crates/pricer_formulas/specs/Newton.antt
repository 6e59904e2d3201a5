-- `implicit_critical_rate_of`: "adds one Newton step". Document 01: "Sums start at 0 (the Newton step's objective at -1) and run left to right."
use Rattle.std.specs.Prelude.{cond, List, [], ◌∷◌, Float, Ok, Err}
use Rattle.std.specs.Float.Ieee.{neg, lt}
use Rattle.ieee.specs.Rounded.{◌⊕◌, ◌⊖◌, ◌⊗◌, ◌⊘◌}
use Rattle.ieee.specs.Decimal.{decimal}
use Rattle.ieee.specs.Numbers.{zero, one}
use Rattle.math_elementary.specs.Simple.{abs_of}
use Rattle.math_exponential.specs.Exp.{exp_of}
use Rattle.refusals.specs.declared.refusals.Refusal.TheVariants as R
use Rattle.refusals.specs.Refusals.{Outcome}
use Rattle.pricer_formulas.specs.declared.newton.Sums.{Sums}

-- a term's bond at a rate: A × exp(rate × -B)
unfoldable pub bond_at : Float → Float → Float → Float
bond_at rate a b = a ⊗ exp_of (rate ⊗ neg b)

-- one term more: objective + bond × c, and derivative - bond × (c × b)
unfoldable pub sums_after : Float → Float → Float → Float → Sums → Sums
sums_after rate c a b sums = record { objective = sums.objective ⊕ bond_at rate a b ⊗ c; derivative = sums.derivative ⊖ bond_at rate a b ⊗ (c ⊗ b) }

unfoldable pub sums_from : Float → Sums → List Float → List Float → List Float → Sums
sums_from rate sums [] affs bs = sums
sums_from rate sums (c ∷ cs) [] bs = sums
sums_from rate sums (c ∷ cs) (a ∷ affs) [] = sums
sums_from rate sums (c ∷ cs) (a ∷ affs) (b ∷ bs) = sums_from rate (sums_after rate c a b sums) cs affs bs

unfoldable pub sums_of : Float → List Float → List Float → List Float → Sums
unfolding sums_from
sums_of rate cs affs bs = sums_from rate (record { objective = neg one; derivative = zero }) cs affs bs

-- 1e-14
abbrev pub flat_limit : Float
flat_limit = decimal 1 14

-- rule 11: "The critical-rate derivative is below 1e-14 in size"; else rate - objective/derivative
unfoldable pub stepped : Float → Sums → Outcome Float
stepped rate sums = cond (lt (abs_of sums.derivative) flat_limit) (Err R.FlatDerivative) (Ok (rate ⊖ sums.objective ⊘ sums.derivative))
