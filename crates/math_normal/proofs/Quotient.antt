-- Hart's quotient lies between 0 and 1, for a step that keeps the order and does at 0 and at 8 what is computed here.
use Rattle.ieee.specs.Decimal.{decimal}
use mathlib.Core.Bool.{false, ◌&&◌}
use mathlib.Core.List.{List, [], ◌∷◌}
use Prim.Native.Nat.{◌*◌, ◌<◌, ◌≤◌}
use native.Mathlib.Omega.{arith}
use native.Mathlib.Nat.{le_trans, le_of_eq, lt_of_lt_of_le, mul-pos, mul_comm, mul_assoc, mul_left_comm, mul-le-mul, zero-mul}
use lib.Dec.{T, ltb, ltb→lt}
use lib.IntN.{pos}
use lib.Ieee.{Float, fin, binary64, add, mul, div, le, fits, of_bits}
use lib.Ieee.Fits.{and_l, and_r, add-fits}
use lib.Ieee.Positive.{num, den, den_pos, through, first_pos}
use Rattle.math_hart.specs.Polynomials.{horner, hart_of, product_then_sum, num_first, num_rest, den_first, den_rest}
use Rattle.math_normal.proofs.NonNeg.{nn, Below, cross→le, le→cross, mul_is, div_is}
use Rattle.math_normal.proofs.Hart.{Orderly, lower, chain, horner_below, below_self, chain_first, twice_orderly}
use Rattle.math_normal.proofs.Self.{round_upto}

pub below_trans : (x y z : Float) → T (nn y) → T (nn z) → Below x y → T (le y z) → Below x z
below_trans x y z q r h k = record { is = h.is; le = cross→le x z h.is r (through (num x) (num y) (num z) (den x) (den y) (den z) (den_pos y) (le→cross x y h.is q h.le) (le→cross y z q r k)) }

abbrev pub nought : Float
nought = fin false 0 (pos 0)

abbrev pub unit : Float
unit = fin false 1 (pos 0)

abbrev pub eight : Float
eight = fin false 1 (pos 3)

pub below_nought : (x : Float) → T (nn x) → Below nought x
below_nought x p = record { is = tt; le = cross→le nought x tt p (le_trans (le_of_eq (zero-mul (den x))) (let q : 0 ≤ num x * 1 = omega arith in q)) }

unit_fits : T (fits binary64 unit)
unfolding fits
unit_fits = tt

-- ---- quotients and products of a number from 0 to 1
pub div_unit : (x y : Float) → T (nn y) → 0 < num y → Below x y → Below (div binary64 x y) unit
div_unit x y q Y h =
    rw (div_is binary64 x y h.is q Y)
    (round_upto (num x * den y) (num y * den x) unit (mul-pos Y (den_pos x)) unit_fits tt (let c = le→cross x y h.is q h.le in omega arith))

pub mul_unit : (e x y : Float) → T (nn y) → T (fits binary64 y) → Below e unit → Below x y → Below (mul binary64 e x) y
mul_unit e x y q f h k =
    rw (mul_is binary64 e x h.is k.is)
    (round_upto (num e * num x) (den e * den x) y (mul-pos (den_pos e) (den_pos x)) f q
    (le_trans (le_of_eq (mul_assoc (num e) (num x) (den y)))
    (le_trans (mul-le-mul small (le→cross x y k.is q k.le))
    (le_of_eq (simp (mul_comm, mul_left_comm))))))
  where
    small : num e ≤ den e
    small = let c = le→cross e unit h.is tt h.le in omega arith

-- ---- what is asked of a step
abbrev first : List Float → Float
first [] = nought
first (c ∷ cs) = c

abbrev rest : List Float → List Float
rest [] = []
rest (c ∷ cs) = cs

num_first_nn : T (nn num_first)
unfolding of_bits decimal
num_first_nn = tt

pub record Sound (step : Float → Float → Float → Float) : Type 0 where
  pub orderly : Orderly step
  pub held : (a z c : Float) → T (fits binary64 (step a z c))
  pub chain8 : T (chain step eight den_first den_rest)
  pub head : T (nn (step nought nought (first den_rest)) && le num_first (step nought nought (first den_rest)))
  pub above : T (ltb 0 (num (horner step nought den_first den_rest)))

module _ (step : Float → Float → Float → Float) (sound : Sound step) (z : Float) (nz : T (nn z)) (small : T (le z eight)) where
  abbrev N : Float
  N = horner step z num_first num_rest

  abbrev D : Float
  D = horner step z den_first den_rest

  self_lower : T (lower den_rest den_rest)
  unfolding le of_bits decimal
  self_lower = tt

  first_nn : T (nn den_first)
  unfolding of_bits decimal
  first_nn = tt

  d1_nn : T (nn (first den_rest))
  unfolding of_bits decimal
  d1_nn = tt

  up8 : T (chain step z den_first den_rest) × Below D (horner step eight den_first den_rest)
  up8 = horner_below step sound.orderly z eight den_first den_first den_rest den_rest tt (record { is = nz; le = small }) (below_self den_first first_nn) self_lower sound.chain8

  D-nn : T (nn D)
  D-nn = up8.1.is

  from0 : Below (horner step nought den_first den_rest) D
  from0 = (horner_below step sound.orderly nought z den_first den_first den_rest den_rest nz (below_nought z nz) (below_self den_first first_nn) self_lower up8.0).1

  D-pos : 0 < num D
  D-pos = first_pos (num D) (den (horner step nought den_first den_rest)) (lt_of_lt_of_le (mul-pos (ltb→lt 0 _ sound.above) (den_pos D)) (le→cross _ D from0.is D-nn from0.le))

  start : Below num_first (step den_first z (first den_rest))
  start =
      let s : T (nn (step den_first z (first den_rest))) = chain_first step z (step den_first z (first den_rest)) (rest den_rest) (and_r (nn den_first) (chain step z (step den_first z (first den_rest)) (rest den_rest)) up8.0) in
      let b = sound.orderly.mono nought den_first nought z (first den_rest) (first den_rest) first_nn nz d1_nn (below_nought den_first first_nn) (below_nought z nz) (below_self (first den_rest) d1_nn) s in
      below_trans num_first (step nought nought (first den_rest)) (step den_first z (first den_rest))
      (and_l (nn (step nought nought (first den_rest))) (le num_first (step nought nought (first den_rest))) sound.head) s
      (record { is = num_first_nn; le = and_r (nn (step nought nought (first den_rest))) (le num_first (step nought nought (first den_rest))) sound.head }) b.le

  lows : T (lower num_rest (rest den_rest))
  unfolding le of_bits decimal
  lows = tt

  N-below : Below N D
  N-below = (horner_below step sound.orderly z z num_first (step den_first z (first den_rest)) num_rest (rest den_rest) nz (below_self z nz) start lows (and_r (nn den_first) (chain step z (step den_first z (first den_rest)) (rest den_rest)) up8.0)).1

  pub hart_unit : (e : Float) → Below e unit → Below (hart_of step z e) unit
  hart_unit e h = div_unit (mul binary64 e N) D D-nn D-pos (mul_unit e N D D-nn (sound.held _ _ _) h N-below)

-- ---- the step with two roundings
pub twice_sound : Sound product_then_sum
unfolding add mul le of_bits decimal
twice_sound = record { orderly = twice_orderly; held = λ a z c. add-fits binary64 (mul binary64 a z) c; chain8 = tt; head = tt; above = tt }
