-- `math_normal::last` meets its contract: by what the last steps and `scale` give. Assumes nothing.
use mathlib.Core.Path.{ap, ap₂, ◌∙◌}
use lib.Ieee.{Float, of_bits}
use Rattle.ieee.specs.Rounded.{◌⊗◌, ◌⊘◌}
use Rattle.ieee.specs.Numbers.{one}
use Rattle.math_exponential.specs.Exp.{turn_of, scale_of}
use Rattle.math_normal.proofs.Turning.{num6, den7}
use Rattle.math_normal.proofs.both.last.Goals as goal

pub returns : goal.returns
unfolding of_bits
returns c = λ z a b Z A B.
    let e = c.scale-e.ensures ∙ ap (λ (p : Float). scale_of p c.args.x.e.k) (c.turn.ensures ∙ ap (λ (p : Float). turn_of c.args.x.e.r p one) c.turn-first.ensures) in
    ap₂ (λ (p q : Float). p ⊘ q) (ap₂ (λ (p q : Float). p ⊗ q) e (c.fixed_last-above.ensures a z _ A Z num6)) (c.fixed_last-below.ensures b z _ B Z den7)
