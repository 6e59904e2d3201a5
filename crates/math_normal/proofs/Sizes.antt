-- How large a float is, its sign left aside: at most what another float is.
use mathlib.Core.Path.{◌≡◌, refl}
use mathlib.Core.Bool.{Bool, true, false, cond, ◌&&◌, beq, true≢false}
use Prim.Native.Nat.{ℕ, zero, suc, ◌+◌, ◌-◌, ◌*◌, ◌<◌, ◌≤◌}
use native.Mathlib.Omega.{arith}
use native.Mathlib.Nat.{zero-mul, le_trans, le_of_eq, mul-pos, mul_assoc, mul_comm, mul_left_comm, mul-le-mul, mul-le-mul_right, mul-mul-mul_comm}
use borrow.Author.Tests.{ltb-true, le-ltb, ne_eqb}
use lib.Dec.{T, ltb, lit<}
use lib.IntN.{pos}
use lib.Ieee.{Float, nan, inf, fin, binary64, up, down, unlike, round, sum, add, mul, div, neg, le, fits}
use lib.Ieee.Fits.{down_pos}
use lib.Ieee.Positive.{num, den, den_pos, through}
use lib.Ieee.Scale.{finite}
use Rattle.math_exponential.proofs.Nearest.{sgn}
use Rattle.math_exponential.proofs.Range.{round_neg, round_sgn}
use Rattle.math_normal.proofs.NonNeg.{nn, Below, cross→le, le→cross, sums}
use Rattle.math_normal.proofs.Self.{round_upto}

unit_fits : T (fits binary64 (fin false 1 (pos 0)))
unfolding fits
unit_fits = tt

pub record Upto (b x : Float) : Type 0 where
  pub finite : T (finite x)
  pub size : num x * den b ≤ num b * den x

pub upto_below : (b x : Float) → T (nn b) → Below x b → Upto b x
upto_below b x p h = record { finite = go x h.is; size = le→cross x b h.is p h.le }
  where
    go : (x : Float) → T (nn x) → T (finite x)
    go nan p = absurd p
    go (inf s) p = absurd p
    go (fin s m e) p = tt

nn_of : (x : Float) → T (finite x) → sgn x ≡ false → T (nn x)
nn_of nan f s = absurd f
nn_of (inf t) f s = absurd f
nn_of (fin true m e) f s = absurd (true≢false s)
nn_of (fin false m e) f s = tt

pub below_upto : (b x : Float) → T (nn b) → sgn x ≡ false → Upto b x → Below x b
below_upto b x p s h = record { is = nn_of x h.finite s; le = cross→le x b (nn_of x h.finite s) p h.size }

num_neg : (x : Float) → num (neg x) ≡ num x
unfolding neg
num_neg nan = refl
num_neg (inf s) = refl
num_neg (fin s m e) = refl

den_neg : (x : Float) → den (neg x) ≡ den x
unfolding neg
den_neg nan = refl
den_neg (inf s) = refl
den_neg (fin s m e) = refl

finite_neg : (x : Float) → T (finite x) → T (finite (neg x))
unfolding neg
finite_neg nan h = h
finite_neg (inf s) h = h
finite_neg (fin s m e) h = h

pub upto_neg : (b x : Float) → Upto b x → Upto b (neg x)
upto_neg b x h = record { finite = finite_neg x h.finite; size = rw (num_neg x, den_neg x) h.size }

-- ---- what is rounded
pub round_size : (s : Bool) (a c : ℕ) (b : Float) → 0 < c → T (fits binary64 b) → T (nn b) → a * den b ≤ num b * c → Upto b (round binary64 s a c)
round_size false a c b C f p h = upto_below b (round binary64 false a c) p (round_upto a c b C f p h)
round_size true a c b C f p h = rw (round_neg binary64 a c) (upto_neg b (round binary64 false a c) (upto_below b (round binary64 false a c) p (round_upto a c b C f p h)))

-- ---- a sum of two, by their sizes
either : (s t : Bool) (a b c : ℕ) (B : Float) → 0 < c → T (fits binary64 B) → T (nn B) → (a + b) * den B ≤ num B * c → Upto B (sum binary64 s a t b c)
unfolding sum
either s t a b c B C f p h = go (beq s t) (ltb a b)
  where
    go : (x y : Bool) → Upto B (cond x (round binary64 s (a + b) c) (cond y (round binary64 t (b - a) c) (round binary64 (s && ltb b a) (a - b) c)))
    go true y = round_size s (a + b) c B C f p h
    go false true = round_size t (b - a) c B C f p (le_trans (mul-le-mul_right (den B) (let q : b - a ≤ a + b = omega arith in q)) h)
    go false false = round_size (s && ltb b a) (a - b) c B C f p (le_trans (mul-le-mul_right (den B) (let q : a - b ≤ a + b = omega arith in q)) h)

pub add_size : (b c B x y : Float) → T (fits binary64 B) → T (nn B) → Upto b x → Upto c y → (num b * den c + num c * den b) * den B ≤ num B * (den b * den c) → Upto B (add binary64 x y)
unfolding add
add_size b c B nan y f p h k l = absurd h.finite
add_size b c B (inf s) y f p h k l = absurd h.finite
add_size b c B (fin s m e) nan f p h k l = absurd k.finite
add_size b c B (fin s m e) (inf t) f p h k l = absurd k.finite
add_size b c B (fin s m e) (fin t n d) f p h k l =
    either s t (m * up e * down d) (n * up d * down e) (down e * down d) B (mul-pos (down_pos e) (down_pos d)) f p
    (through (m * up e * down d + n * up d * down e) (num b * den c + num c * den b) (num B) (down e * down d) (den b * den c) (den B) (mul-pos (den_pos b) (den_pos c))
    (sums (m * up e) (down e) (n * up d) (down d) (num b) (den b) (num c) (den c) h.size k.size) l)

pub mul_size : (b c B x y : Float) → T (fits binary64 B) → T (nn B) → Upto b x → Upto c y → num b * num c * den B ≤ num B * (den b * den c) → Upto B (mul binary64 x y)
unfolding mul
mul_size b c B nan y f p h k l = absurd h.finite
mul_size b c B (inf s) y f p h k l = absurd h.finite
mul_size b c B (fin s m e) nan f p h k l = absurd k.finite
mul_size b c B (fin s m e) (inf t) f p h k l = absurd k.finite
mul_size b c B (fin s m e) (fin t n d) f p h k l =
    round_size (unlike s t) (m * up e * (n * up d)) (down e * down d) B (mul-pos (down_pos e) (down_pos d)) f p
    (through (m * up e * (n * up d)) (num b * num c) (num B) (down e * down d) (den b * den c) (den B) (mul-pos (den_pos b) (den_pos c))
    (le_trans (le_of_eq (mul-mul-mul_comm (m * up e) (n * up d) (den b) (den c))) (le_trans (mul-le-mul h.size k.size) (le_of_eq (mul-mul-mul_comm (num b) (down e) (num c) (down d))))) l)

zero_sig : (n u : ℕ) → 0 < n * u → n ≡ 0 → ⊥
zero_sig zero u h e = let z : 0 * u ≡ 0 = zero-mul u in omega arith
zero_sig (suc n) u h e = omega arith

quotients : (X dx Y dy b db c dc : ℕ) → X * db ≤ b * dx → c * dy ≤ Y * dc → X * dy * (c * db) ≤ b * dc * (Y * dx)
quotients X dx Y dy b db c dc h k = le_trans (le_of_eq (simp (mul_assoc, mul_comm, mul_left_comm))) (le_trans (mul-le-mul h k) (le_of_eq (simp (mul_assoc, mul_comm, mul_left_comm))))

-- a quotient by a number that is c at least
pub div_size : (b c B x y : Float) → T (fits binary64 B) → T (nn B) → Upto b x → T (nn y) → T (nn c) → 0 < num c → 0 < num y → T (le c y) → num b * den c * den B ≤ num B * (num c * den b) → Upto B (div binary64 x y)
unfolding div
div_size b c B nan y f p h q r C Y k l = absurd h.finite
div_size b c B (inf s) y f p h q r C Y k l = absurd h.finite
div_size b c B (fin s m e) nan f p h q r C Y k l = absurd q
div_size b c B (fin s m e) (inf t) f p h q r C Y k l = absurd q
div_size b c B (fin s m e) (fin true n d) f p h q r C Y k l = absurd q
div_size b c B (fin s m e) (fin false n d) f p h q r C Y k l =
    rw (ne_eqb n 0 (zero_sig n (up d) Y))
    (round_size (unlike s false) (m * up e * down d) (n * up d * down e) B (mul-pos Y (down_pos e)) f p
    (through (m * up e * down d) (num b * den c) (num B) (n * up d * down e) (num c * den b) (den B) (mul-pos C (den_pos b))
    (quotients (m * up e) (down e) (n * up d) (down d) (num b) (den b) (num c) (den c) h.size (le→cross c (fin false n d) r q k)) l))

-- ---- 1 and a number of size 1 at most
abbrev unit : Float
unit = fin false 1 (pos 0)

pub one_more_sgn : (x : Float) → Upto unit x → sgn (add binary64 unit x) ≡ false
unfolding add
one_more_sgn nan h = absurd h.finite
one_more_sgn (inf s) h = absurd h.finite
one_more_sgn (fin false m e) h = round_sgn binary64 (1 * down e + m * up e * 1) (1 * down e)
one_more_sgn (fin true m e) h = go (ltb (1 * down e) (m * up e * 1)) (ltb-true (1 * down e) (m * up e * 1))
  where
    go : (t : Bool) → (ltb (1 * down e) (m * up e * 1) ≡ true → 1 * down e < m * up e * 1) → sgn (cond (ltb (1 * down e) (m * up e * 1)) (round binary64 true (m * up e * 1 - 1 * down e) (1 * down e)) (round binary64 false (1 * down e - m * up e * 1) (1 * down e))) ≡ false
    go t g = rw (le-ltb (1 * down e) (m * up e * 1) h.size) (round_sgn binary64 (1 * down e - m * up e * 1) (1 * down e))

-- 1 less a number from 0 to 1
pub one_less : (w : Float) → T (nn w) → Upto unit w → Below (add binary64 unit (neg w)) unit
unfolding add neg
one_less nan p h = absurd p
one_less (inf s) p h = absurd p
one_less (fin true m e) p h = absurd p
one_less (fin false m e) p h =
    rw (le-ltb (1 * down e) (m * up e * 1) h.size)
    (round_upto (1 * down e - m * up e * 1) (1 * down e) unit (mul-pos (lit< tt) (down_pos e)) unit_fits tt (omega arith))
