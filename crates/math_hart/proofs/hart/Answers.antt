-- `math_hart::hart` meets its contract: by the quicker way, or by the two polynomials. Assumes nothing.
use mathlib.Core.Path.{◌∙◌, ap₂}
use lib.Ieee.{Float}
use Rattle.ieee.specs.Rounded.{◌⊗◌, ◌⊘◌}
use Rattle.math_hart.proofs.Coefficients.{num_is, den_is}
use Rattle.math_hart.proofs.hart.Goals as goal

pub returns-in-None : goal.returns-in-None
returns-in-None g c =
    ap₂ (λ (p q : Float). c.args.e ⊗ p ⊘ q) (c.horner.ensures ∙ num_is g.S.Step.step_of c.args.z) (c.horner-in-None.ensures ∙ den_is g.S.Step.step_of c.args.z)
