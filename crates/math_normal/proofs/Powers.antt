-- The exponential's series and its power of two, for a reduced argument of size 9/16 at most.
use Rattle.ieee.specs.Decimal.{decimal}
use mathlib.Core.Path.{◌≡◌, refl, sym, ◌∙◌}
use mathlib.Core.Bool.{true, false, true≢false}
use Prim.Native.Nat.{ℕ, zero, suc, ◌+◌, ◌-◌, ◌*◌, ◌/◌, ◌^◌, ◌<◌, ◌≤◌}
use native.Mathlib.Omega.{arith}
use native.Mathlib.Nat.{le_trans, le_of_eq, mul-pos, mul-one, zero-mul, mul-le-mul_right}
use borrow.Author.Tests.{ne_eqb}
use lib.Dec.{T, lit<, lit≤}
use lib.Pow.{pow_mono}
use lib.IntN.{pos, negsuc, neg_ℤ, ◌-ℤ◌}
use lib.Signed.{quot_z}
use lib.Ieee.{Float, nan, inf, fin, binary64, up, down, round, add, mul, div, neg, le, fits, of_int, of_bits}
use lib.Ieee.Back.{round_whole}
use lib.Ieee.Exact.{HasValue}
use lib.Ieee.Positive.{num, den, den_pos}
use Rattle.ieee.specs.Numbers.{one}
use Rattle.math_exponential.specs.Exp.{series_of, scale_of, two_to}
use Rattle.math_exponential.proofs.Nearest.{sgn}
use Rattle.math_elementary.proofs.Ints.{subℕ_lt}
use Rattle.math_exponential.proofs.Range.{round_neg, round_sgn}
use Rattle.math_normal.proofs.NonNeg.{nn, Below, cross→le, mul_is, div_is}
use Rattle.math_normal.proofs.Sizes.{Upto, upto_neg, upto_below, below_upto, add_size, mul_size, div_size, one_more_sgn, one_less}

abbrev pub unit : Float
unit = fin false 1 (pos 0)

abbrev pub two : Float
two = fin false 1 (pos 1)

-- 9/16, 3/2, 27/32, 27/64
abbrev pub reach : Float
reach = fin false 9 (negsuc 3)

abbrev pub mid : Float
mid = fin false 3 (negsuc 0)

abbrev wide : Float
wide = fin false 27 (negsuc 4)

abbrev narrow : Float
narrow = fin false 27 (negsuc 5)

held : T (fits binary64 unit) × T (fits binary64 two) × T (fits binary64 mid) × T (fits binary64 wide) × T (fits binary64 narrow)
unfolding fits
held = (tt, tt, tt, tt, tt)

one_is : one ≡ unit
unfolding of_bits decimal
one_is = refl

-- ---- a whole number as a divisor
whole_nn : (n : ℕ) (x : Float) → HasValue x false n 1 → T (nn x) × (num x ≡ n * den x)
whole_nn n nan h = absurd h
whole_nn n (inf s) h = absurd h
whole_nn n (fin true m e) h = absurd (true≢false h.0)
whole_nn n (fin false m e) h = (tt, sym (mul-one (m * up e)) ∙ h.1)

of_is : (n : ℕ) → of_int binary64 (pos n) ≡ round binary64 false n 1
unfolding of_int
of_is n = refl

small_whole : (n : ℕ) → n ≤ 100 → n ≤ 2 ^ 53
small_whole n h = omega arith

divisor : (n : ℕ) → n ≤ 100 → T (nn (of_int binary64 (pos n))) × (num (of_int binary64 (pos n)) ≡ n * den (of_int binary64 (pos n)))
divisor n h = rw (of_is n) (whole_nn n (round binary64 false n 1) (round_whole binary64 false n (small_whole n h)))

unit_le : T (le unit unit)
unfolding le
unit_le = tt

mul_sgn : (x y : Float) → T (nn x) → T (nn y) → sgn (mul binary64 x y) ≡ false
mul_sgn x y p q = rw (mul_is binary64 x y p q) (round_sgn binary64 _ _)

div_sgn : (x y : Float) → T (nn x) → T (nn y) → 0 < num y → sgn (div binary64 x y) ≡ false
div_sgn x y p q h = rw (div_is binary64 x y p q h) (round_sgn binary64 _ _)

-- ---- one turn
unfoldable step : Float → ℕ → Float → Float
step r n p = add binary64 one (div binary64 (mul binary64 r p) (of_int binary64 (pos n)))

at_least : (c n d N : ℕ) → N ≡ n * d → c ≤ n → c * d ≤ N * 1
at_least c n d N e h = le_trans (mul-le-mul_right d h) (le_of_eq (sym e ∙ sym (mul-one N)))

divisor_pos : (n : ℕ) → 1 ≤ n → n ≤ 100 → 0 < num (of_int binary64 (pos n))
divisor_pos n h l = rw (divisor n l).1 (mul-pos h (den_pos (of_int binary64 (pos n))))

divisor_one : (n : ℕ) → 1 ≤ n → n ≤ 100 → T (le unit (of_int binary64 (pos n)))
divisor_one n h l = cross→le unit (of_int binary64 (pos n)) tt (divisor n l).0 (at_least 1 n (den (of_int binary64 (pos n))) (num (of_int binary64 (pos n))) (divisor n l).1 h)

divisor_two : (n : ℕ) → 2 ≤ n → n ≤ 100 → T (le two (of_int binary64 (pos n)))
divisor_two n h l = cross→le two (of_int binary64 (pos n)) tt (divisor n l).0 (at_least 2 n (den (of_int binary64 (pos n))) (num (of_int binary64 (pos n))) (divisor n l).1 h)

narrow_unit : (x : Float) → Upto narrow x → Upto unit x
narrow_unit x h = record { finite = h.finite; size = let z : num x * 64 ≤ 27 * den x = h.size in omega arith }

wide_unit : (x : Float) → Upto wide x → Upto unit x
wide_unit x h = record { finite = h.finite; size = let z : num x * 32 ≤ 27 * den x = h.size in omega arith }

turn : (r : Float) (n : ℕ) (p : Float) → 2 ≤ n → n ≤ 100 → Upto reach r → Below p mid → Below (step r n p) mid
unfolding step
turn r n p h l u b =
    let q : Upto wide (mul binary64 r p) = mul_size reach mid wide r p held.3 tt u (upto_below mid p tt b) (lit≤ tt) in
    let d : Upto narrow (div binary64 (mul binary64 r p) (of_int binary64 (pos n))) = div_size wide two narrow (mul binary64 r p) (of_int binary64 (pos n)) held.4 tt q (divisor n l).0 tt (lit< tt) (divisor_pos n (omega arith) l) (divisor_two n h l) (lit≤ tt) in
    rw one_is
    (below_upto mid _ tt (one_more_sgn _ (narrow_unit _ d)) (add_size unit narrow mid unit _ held.2 tt (upto_below unit unit tt (record { is = tt; le = unit_le })) d (lit≤ tt)))

last_turn : (r : Float) (n : ℕ) (p : Float) → 1 ≤ n → n ≤ 100 → Upto reach r → Below p mid → Below (step r n p) two
unfolding step
last_turn r n p h l u b =
    let q : Upto wide (mul binary64 r p) = mul_size reach mid wide r p held.3 tt u (upto_below mid p tt b) (lit≤ tt) in
    let d : Upto wide (div binary64 (mul binary64 r p) (of_int binary64 (pos n))) = div_size wide unit wide (mul binary64 r p) (of_int binary64 (pos n)) held.3 tt q (divisor n l).0 tt (lit< tt) (divisor_pos n h l) (divisor_one n h l) (lit≤ tt) in
    rw one_is
    (below_upto two _ tt (one_more_sgn _ (wide_unit _ d)) (add_size unit wide two unit _ held.1 tt (upto_below unit unit tt (record { is = tt; le = unit_le })) d (lit≤ tt)))

more : (k : ℕ) → suc (suc k) ≤ 99 → (2 ≤ 1 + suc k) × (1 + suc k ≤ 100) × (suc k ≤ 99)
more k h = (omega arith, omega arith, omega arith)

pub series_below : (r : Float) (k : ℕ) (p : Float) → suc k ≤ 99 → Upto reach r → Below p mid → Below (series_of r 1 (suc k) p) two
unfolding series_of step
series_below r zero p h u b = last_turn r 1 p (lit≤ tt) (lit≤ tt) u b
series_below r (suc k) p h u b = series_below r k (step r (1 + suc k) p) (more k h).2 u (turn r (1 + suc k) p (more k h).0 (more k h).1 u b)

-- ---- an argument that is not positive: the series is 1 at most
pub mul_neg : (x y : Float) → T (nn x) → T (nn y) → mul binary64 (neg x) y ≡ neg (mul binary64 x y)
unfolding mul neg
mul_neg nan y p q = absurd p
mul_neg (inf s) y p q = absurd p
mul_neg (fin true m e) y p q = absurd p
mul_neg (fin false m e) nan p q = absurd q
mul_neg (fin false m e) (inf t) p q = absurd q
mul_neg (fin false m e) (fin true n d) p q = absurd q
mul_neg (fin false m e) (fin false n d) p q = round_neg binary64 (m * up e * (n * up d)) (down e * down d)

zero_sig : (n u : ℕ) → 0 < n * u → n ≡ 0 → ⊥
zero_sig zero u h e = let z : 0 * u ≡ 0 = zero-mul u in omega arith
zero_sig (suc n) u h e = omega arith

div_neg : (x y : Float) → T (nn x) → T (nn y) → 0 < num y → div binary64 (neg x) y ≡ neg (div binary64 x y)
unfolding div neg
div_neg nan y p q h = absurd p
div_neg (inf s) y p q h = absurd p
div_neg (fin true m e) y p q h = absurd p
div_neg (fin false m e) nan p q h = absurd q
div_neg (fin false m e) (inf t) p q h = absurd q
div_neg (fin false m e) (fin true n d) p q h = absurd q
div_neg (fin false m e) (fin false n d) p q h = rw (ne_eqb n 0 (zero_sig n (up d) h)) (round_neg binary64 (m * up e * down d) (n * up d * down e))

last_neg : (R : Float) (n : ℕ) (p : Float) → 1 ≤ n → n ≤ 100 → T (nn R) → Upto reach R → Below p mid → Below (step (neg R) n p) unit
unfolding step
last_neg R n p h l w u b =
    let q : Upto wide (mul binary64 R p) = mul_size reach mid wide R p held.3 tt u (upto_below mid p tt b) (lit≤ tt) in
    let qn : T (nn (mul binary64 R p)) = (below_upto wide (mul binary64 R p) tt (mul_sgn R p w b.is) q).is in
    let d : Upto wide (div binary64 (mul binary64 R p) (of_int binary64 (pos n))) = div_size wide unit wide (mul binary64 R p) (of_int binary64 (pos n)) held.3 tt q (divisor n l).0 tt (lit< tt) (divisor_pos n h l) (divisor_one n h l) (lit≤ tt) in
    let dn : T (nn (div binary64 (mul binary64 R p) (of_int binary64 (pos n)))) = (below_upto wide _ tt (div_sgn (mul binary64 R p) (of_int binary64 (pos n)) qn (divisor n l).0 (divisor_pos n h l)) d).is in
    rw (one_is, mul_neg R p w b.is, div_neg (mul binary64 R p) (of_int binary64 (pos n)) qn (divisor n l).0 (divisor_pos n h l))
    (one_less (div binary64 (mul binary64 R p) (of_int binary64 (pos n))) dn (wide_unit _ d))

pub series_neg : (R : Float) (k : ℕ) (p : Float) → suc k ≤ 99 → T (nn R) → Upto reach R → Below p mid → Below (series_of (neg R) 1 (suc k) p) unit
unfolding series_of step
series_neg R zero p h w u b = last_neg R 1 p (lit≤ tt) (lit≤ tt) w u b
series_neg R (suc k) p h w u b = series_neg R k (step (neg R) (1 + suc k) p) (more k h).2 w u (turn (neg R) (1 + suc k) p (more k h).0 (more k h).1 (upto_neg reach R u) b)

-- ---- the power of two, for k = -K
abbrev half : Float
half = fin false 1 (negsuc 0)

power_unit : (h : ℕ) → Below (two_to (neg_ℤ (pos h))) unit
unfolding le
power_unit zero = record { is = tt; le = tt }
power_unit (suc i) = record { is = tt; le = cross→le (fin false 1 (negsuc i)) unit tt tt (let q : 1 ≤ 2 ^ suc i = pow_mono {i = 0} {j = suc i} (omega arith) in omega arith) }

power_half : (i : ℕ) → Upto half (two_to (negsuc i))
power_half i = record { finite = tt; size = let q : 2 ≤ 2 ^ suc i = pow_mono {i = 1} {j = suc i} (omega arith) in omega arith }

rest_is : (j : ℕ) → negsuc j -ℤ quot_z (negsuc j) (pos 2) ≡ negsuc (suc j - suc (suc j / 2))
rest_is j = go (suc j / 2) (let q : suc j / 2 < suc j = omega arith in q)
  where
    go : (h : ℕ) → h < suc j → negsuc j -ℤ neg_ℤ (pos h) ≡ negsuc (suc j - suc h)
    go zero l = subℕ_lt 0 (suc j) l
    go (suc h) l = subℕ_lt (suc h) (suc j) l

pub scale_below : (p : Float) (j : ℕ) → Below p two → Below (scale_of p (negsuc j)) unit
scale_below p j b =
    let a = two_to (quot_z (negsuc j) (pos 2)) in
    let ba : Below a unit = power_unit (suc j / 2) in
    let w : Below (mul binary64 p a) two = below_upto two (mul binary64 p a) tt (mul_sgn p a b.is tt) (mul_size two unit two p a held.1 tt (upto_below two p tt b) (upto_below unit a tt ba) (lit≤ tt)) in
    let c = two_to (negsuc (suc j - suc (suc j / 2))) in
    rw (rest_is j)
    (below_upto unit (mul binary64 (mul binary64 p a) c) tt (mul_sgn (mul binary64 p a) c w.is tt)
    (mul_size two half unit (mul binary64 p a) c held.0 tt (upto_below two (mul binary64 p a) tt w) (power_half (suc j - suc (suc j / 2))) (lit≤ tt)))

pub scale_zero : (p : Float) → Below p unit → Below (scale_of p (pos 0)) unit
scale_zero p b =
    let w : Below (mul binary64 p unit) unit = below_upto unit (mul binary64 p unit) tt (mul_sgn p unit b.is tt) (mul_size unit unit unit p unit held.0 tt (upto_below unit p tt b) (upto_below unit unit tt (record { is = tt; le = unit_le })) (lit≤ tt)) in
    below_upto unit (mul binary64 (mul binary64 p unit) unit) tt (mul_sgn (mul binary64 p unit) unit w.is tt)
    (mul_size unit unit unit (mul binary64 p unit) unit held.0 tt (upto_below unit (mul binary64 p unit) tt w) (upto_below unit unit tt (record { is = tt; le = unit_le })) (lit≤ tt))
