-- The continued fraction of the tail, from 7 up to 37: it is 7 at least, so the quotient is at most 1.
use Rattle.ieee.specs.Decimal.{decimal}
use mathlib.Core.Path.{◌≡◌, refl, subst}
use mathlib.Core.Bool.{true, false}
use Prim.Native.Nat.{◌*◌, ◌<◌, ◌≤◌}
use native.Mathlib.Nat.{le_of_lt, lt_of_lt_of_le, mul-pos}
use borrow.Author.Tests.{ltb-true, ltb-false}
use lib.Dec.{T, lit<}
use lib.IntN.{pos}
use lib.Ieee.{Float, nan, inf, fin, binary64, up, down, add, mul, div, le, lt, of_bits}
use lib.Ieee.Positive.{num, den, den_pos, first_pos}
use Rattle.ieee.specs.Numbers.{one}
use Rattle.math_normal.specs.NormCdf.{tail_of, tail_start}
use Rattle.math_elementary.specs.Constants.{sqrt2pi}
use Rattle.math_normal.proofs.NonNeg.{nn, Below, cross→le, le→cross, add_below, mul_below, div_below}
use Rattle.math_normal.proofs.Hart.{below_self}
use Rattle.math_normal.proofs.Quotient.{nought, unit, below_trans, below_nought, div_unit}

-- ---- what a failed or a passed test says
lt_cross_no : (x y : Float) → T (nn x) → T (nn y) → lt x y ≡ false → num y * den x ≤ num x * den y
unfolding lt
lt_cross_no nan y p q h = absurd p
lt_cross_no (inf s) y p q h = absurd p
lt_cross_no (fin true m e) y p q h = absurd p
lt_cross_no (fin false m e) nan p q h = absurd q
lt_cross_no (fin false m e) (inf t) p q h = absurd q
lt_cross_no (fin false m e) (fin true n d) p q h = absurd q
lt_cross_no (fin false m e) (fin false n d) p q h = ltb-false (m * up e * down d) (n * up d * down e) h

lt_cross_yes : (x y : Float) → T (nn x) → T (nn y) → lt x y ≡ true → num x * den y ≤ num y * den x
unfolding lt
lt_cross_yes nan y p q h = absurd p
lt_cross_yes (inf s) y p q h = absurd p
lt_cross_yes (fin true m e) y p q h = absurd p
lt_cross_yes (fin false m e) nan p q h = absurd q
lt_cross_yes (fin false m e) (inf t) p q h = absurd q
lt_cross_yes (fin false m e) (fin true n d) p q h = absurd q
lt_cross_yes (fin false m e) (fin false n d) p q h = le_of_lt (ltb-true (m * up e * down d) (n * up d * down e) h)

pub lt_no : (x y : Float) → T (nn x) → T (nn y) → lt x y ≡ false → T (le y x)
lt_no x y p q h = cross→le y x q p (lt_cross_no x y p q h)

pub lt_yes : (x y : Float) → T (nn x) → T (nn y) → lt x y ≡ true → T (le x y)
lt_yes x y p q h = cross→le x y p q (lt_cross_yes x y p q h)

abbrev pub seven : Float
seven = fin false 7 (pos 0)

abbrev pub top : Float
top = fin false 37 (pos 0)

abbrev four : Float
four = fin false 1 (pos 2)

below_pos : (x y : Float) → T (nn y) → 0 < num x → Below x y → 0 < num y
below_pos x y q X h = first_pos (num y) (den x) (lt_of_lt_of_le (mul-pos X (den_pos y)) (le→cross x y h.is q h.le))

top_sum : T (nn (add binary64 top unit))
unfolding add
top_sum = tt

quarter : T (nn (div binary64 four seven)) × T (le (div binary64 four seven) unit)
unfolding div le
quarter = (tt, tt)

seven_sum : add binary64 seven nought ≡ seven
unfolding add
seven_sum = refl

-- one step of the continued fraction
abbrev ladder : Float → Float → Float → Float
ladder z n b = add binary64 z (div binary64 n b)

module _ (z : Float) (nz : T (nn z)) (lo : T (le seven z)) (hi : T (le z top)) where
  -- z + q for a q from 0 to 1
  sum_ok : (q : Float) → Below q unit → T (nn (add binary64 z q)) × Below seven (add binary64 z q) × Below (add binary64 z q) (add binary64 top unit)
  sum_ok q h =
      let u : Below (add binary64 z q) (add binary64 top unit) = add_below binary64 z top q unit tt tt (record { is = nz; le = hi }) h top_sum in
      (u.is, subst (λ (x : Float). Below x (add binary64 z q)) seven_sum (add_below binary64 seven z nought q nz h.is (record { is = tt; le = lo }) (below_nought q h.is) u.is), u)

  step_ok : (n b : Float) → T (nn b) → Below seven b → Below n four → T (nn (ladder z n b)) × Below seven (ladder z n b) × Below (ladder z n b) (add binary64 top unit)
  step_ok n b p h k =
      let d : Below (div binary64 n b) (div binary64 four seven) = div_below binary64 n four b seven tt p (below_pos seven b p (lit< tt) h) (lit< tt) k h quarter.0 in
      sum_ok (div binary64 n b) (below_trans (div binary64 n b) (div binary64 four seven) unit quarter.0 tt d quarter.1)

  start_below : Below tail_start unit
  unfolding of_bits decimal le
  start_below = record { is = tt; le = tt }

  under4 : Below (of_bits binary64 0x4010_0000_0000_0000) four
  unfolding of_bits decimal le
  under4 = record { is = tt; le = tt }

  under3 : Below (of_bits binary64 0x4008_0000_0000_0000) four
  unfolding of_bits decimal le
  under3 = record { is = tt; le = tt }

  under2 : Below (of_bits binary64 0x4000_0000_0000_0000) four
  unfolding of_bits decimal le
  under2 = record { is = tt; le = tt }

  under1 : Below one four
  unfolding of_bits decimal le
  under1 = record { is = tt; le = tt }

  root : T (nn sqrt2pi) × T (nn (mul binary64 (add binary64 top unit) sqrt2pi)) × T (nn (add binary64 top unit)) × T (nn (mul binary64 seven sqrt2pi)) × T (le unit (mul binary64 seven sqrt2pi))
  unfolding of_bits decimal le mul add
  root = (tt, tt, tt, tt, tt)

  pub tail_unit : (e : Float) → Below e unit → Below (tail_of z e) unit
  tail_unit e h =
      let b0 = add binary64 z tail_start in
      let s0 = sum_ok tail_start start_below in
      let s1 = step_ok (of_bits binary64 0x4010_0000_0000_0000) b0 s0.0 s0.1 under4 in
      let b1 = ladder z (of_bits binary64 0x4010_0000_0000_0000) b0 in
      let s2 = step_ok (of_bits binary64 0x4008_0000_0000_0000) b1 s1.0 s1.1 under3 in
      let b2 = ladder z (of_bits binary64 0x4008_0000_0000_0000) b1 in
      let s3 = step_ok (of_bits binary64 0x4000_0000_0000_0000) b2 s2.0 s2.1 under2 in
      let b3 = ladder z (of_bits binary64 0x4000_0000_0000_0000) b2 in
      let s4 = step_ok one b3 s3.0 s3.1 under1 in
      let b4 = ladder z one b3 in
      let m : Below (mul binary64 b4 sqrt2pi) (mul binary64 (add binary64 top unit) sqrt2pi) = mul_below binary64 b4 (add binary64 top unit) sqrt2pi sqrt2pi root.2 root.0 s4.2 (below_self sqrt2pi root.0) root.1 in
      let l : Below (mul binary64 seven sqrt2pi) (mul binary64 b4 sqrt2pi) = mul_below binary64 seven b4 sqrt2pi sqrt2pi s4.0 root.0 s4.1 (below_self sqrt2pi root.0) m.is in
      let u : Below unit (mul binary64 b4 sqrt2pi) = below_trans unit (mul binary64 seven sqrt2pi) (mul binary64 b4 sqrt2pi) root.3 m.is (record { is = tt; le = root.4 }) l.le in
      div_unit e (mul binary64 b4 sqrt2pi) m.is (below_pos unit (mul binary64 b4 sqrt2pi) m.is (lit< tt) u) (below_trans e unit (mul binary64 b4 sqrt2pi) tt m.is h u.le)
