-- `pricer_formulas::implicit_critical_rate_of` meets its contract: a derivative too small is refused, any other divides the objective. Assumes nothing.
use mathlib.Core.Path.{◌≡◌}
use mathlib.Core.Bool.{true, false}
use lib.Ieee.{lt, binary64, of_bits}
use Rattle.math_elementary.specs.Simple.{abs_of}
use Rattle.pricer_formulas.specs.Newton.{stepped}
use Rattle.pricer_formulas.proofs.Literals.{flat_limit_is}
use Rattle.pricer_formulas.proofs.newton.implicit_critical_rate_of.Goals as goal

pub returns-then-abs : goal.returns-then-abs
unfolding stepped
returns-then-abs c =
    let s = c.newton_sums-total in
    let q : lt (abs_of s.result.derivative) (of_bits binary64 0x3d06_849b_86a1_2b9b) ≡ true = rw c.abs.ensures at c.if-abs.true in
    rw (← s.ensures, ← flat_limit_is, q)

pub returns-else-abs : goal.returns-else-abs
unfolding stepped
returns-else-abs c =
    let s = c.newton_sums-total in
    let q : lt (abs_of s.result.derivative) (of_bits binary64 0x3d06_849b_86a1_2b9b) ≡ false = rw c.abs.ensures at c.if-abs.false in
    rw (← s.ensures, ← flat_limit_is, q)
