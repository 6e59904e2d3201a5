-- `hullwhite_parameters::variance::weight` meets its contract: the code's limit is the decimal of specs/, which antt rounds. Assumes nothing.
use mathlib.Core.Path.{◌≡◌, refl}
use mathlib.Core.Bool.{true, false}
use lib.Ieee.{lt, binary64, of_bits}
use Rattle.ieee.specs.Decimal.{decimal}
use Rattle.math_elementary.specs.Simple.{abs_of}
use Rattle.hullwhite_parameters.specs.Variance.{flat, weight_of}
use Rattle.hullwhite_parameters.proofs.variance.weight.Goals as goal

flat_is : of_bits binary64 0x3d71_9799_812d_ea11 ≡ flat
unfolding of_bits decimal
flat_is = refl

pub returns-then-abs : goal.returns-then-abs
unfolding weight_of
returns-then-abs c =
    let q : lt (abs_of c.args.alpha) (of_bits binary64 0x3d71_9799_812d_ea11) ≡ true = rw c.abs.ensures at c.if-abs.true in
    rw (← flat_is, q)

pub returns-else-abs : goal.returns-else-abs
unfolding weight_of
returns-else-abs c =
    let q : lt (abs_of c.args.alpha) (of_bits binary64 0x3d71_9799_812d_ea11) ≡ false = rw c.abs.ensures at c.if-abs.false in
    rw (← flat_is, q) (cc)
