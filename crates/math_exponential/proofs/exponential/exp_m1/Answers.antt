-- `math_exponential::exp_m1` meets its contract: by the test of |y| against 0.5, and by what `series` and `exp` give. Assumes nothing.
use Rattle.std.proofs.Common.{◌≡◌, Bool, true, false, sym, ap, ◌∙◌}
use lib.Ieee.{Float, binary64, le, of_bits}
use Rattle.ieee.specs.Rounded.{◌⊖◌, ◌⊗◌}
use Rattle.ieee.specs.Numbers.{one}
use Rattle.math_elementary.specs.Simple.{abs_of}
use Rattle.math_exponential.specs.Exp.{exp_m1_of}
use Rattle.math_exponential.proofs.exponential.exp_m1.Goals as goal

-- the test of |y| against 0.5, as the definition has it
tested : (y a : Float) (t : Bool) → a ≡ abs_of y → le a (of_bits binary64 0x3fe0_0000_0000_0000) ≡ t → le (abs_of y) (of_bits binary64 0x3fe0_0000_0000_0000) ≡ t
tested y a t e h = ap (λ (z : Float). le z (of_bits binary64 0x3fe0_0000_0000_0000)) (sym e) ∙ h

pub returns-then-abs : goal.returns-then-abs
unfolding exp_m1_of
returns-then-abs c =
    rw (tested _ _ true c.abs.ensures c.if-abs.true) (ap (λ (q : Float). c.args.y ⊗ q) c.series.ensures)

pub returns-else-abs : goal.returns-else-abs
unfolding exp_m1_of
returns-else-abs c =
    rw (tested _ _ false c.abs.ensures c.if-abs.false) (ap (λ (q : Float). q ⊖ one) c.exp.ensures.value)
