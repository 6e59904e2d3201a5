-- The signs of residuals that are numbers: each signum is 1 or -1, so that of two that differ, a third has the sign of one alone. Assumes nothing.
use mathlib.Core.Path.{◌≡◌, refl}
use mathlib.Core.Bool.{Bool, true, false, not, cond}
use lib.Dec.{T}
use lib.Ieee.{Float, nan, inf, fin, neg, is_nan, eq, of_bits}
use Rattle.ieee.specs.Numbers.{one}
use Rattle.math_elementary.specs.Simple.{signum_of}
use Rattle.math_bisection.specs.Solve.{same_sign}

abbrev unit : Bool → Float
unit s = cond s (neg one) one

record Signed (x : Float) : Type 0 where
  sign : Bool
  is : signum_of x ≡ unit sign

signed : (x : Float) → T (not (is_nan x)) → Signed x
unfolding is_nan
signed nan h = absurd h
signed (inf s) h = record { sign = s; is = refl }
signed (fin s m e) h = record { sign = s; is = refl }

abbrev alike : Bool → Bool → Bool
alike s t = eq (unit s) (unit t)

units_turn : (s t : Bool) → T (not (alike s t)) → T (not (alike t s))
unfolding eq neg of_bits
units_turn true true h = h
units_turn true false h = tt
units_turn false true h = tt
units_turn false false h = h

units_part : (s t u : Bool) → T (alike s t) → T (not (alike t u)) → T (not (alike s u))
unfolding eq neg of_bits
units_part true true u h k = k
units_part true false u h k = absurd h
units_part false true u h k = absurd h
units_part false false u h k = k

pub differ_turn : (x y : Float) → T (not (is_nan x)) → T (not (is_nan y)) → T (not (same_sign x y)) → T (not (same_sign y x))
differ_turn x y nx ny h =
    let a = signed x nx in
    let b = signed y ny in
    let k : T (not (alike a.sign b.sign)) = rw (a.is, b.is) at h in
    rw (a.is, b.is) (units_turn a.sign b.sign k)

-- a residual with the sign of y, which differs from z, differs from z
pub differ_from : (x y z : Float) → T (not (is_nan x)) → T (not (is_nan y)) → T (not (is_nan z)) → T (same_sign x y) → T (not (same_sign y z)) → T (not (same_sign x z))
differ_from x y z nx ny nz h k =
    let a = signed x nx in
    let b = signed y ny in
    let c = signed z nz in
    let h' : T (alike a.sign b.sign) = rw (a.is, b.is) at h in
    let k' : T (not (alike b.sign c.sign)) = rw (b.is, c.is) at k in
    rw (a.is, c.is) (units_part a.sign b.sign c.sign h' k')
