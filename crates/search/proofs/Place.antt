-- The place of a finite value on the line of whole numbers, counted in units of its format's smallest value from the place of zero, 2 ^ (low + emax + 1).
-- Values are in the order of their places, and each is a point there. Assumes nothing.
use mathlib.Core.Path.{◌≡◌, refl, sym, ap, ◌∙◌, subst}
use mathlib.Core.Logic.{◌⊎◌, inl, inr, ⊎_elim}
use Prim.Native.Nat.{ℕ, zero, suc, ◌+◌, ◌-◌, ◌*◌, ◌%◌, ◌^◌, ◌≤◌, ◌<◌}
use native.Mathlib.Nat.{le_trans, le_of_eq, le_of_lt, mul_comm, mul_assoc, mul_right_comm, one-mul, mul-one, zero-mul, mul-pos, mul-le-mul_right, mul-lt-mul_of_pos_right, lt_of_mul-lt-mul_right, eq_of_mul-eq-mul_right, add-mul}
use native.Mathlib.Decide.{dec_lt}
use native.Mathlib.Omega.{arith}
use mathlib.Core.Bool.{Bool, true, false, ◌&&◌, ◌||◌, beq}
use lib.IntN.{ℤ, pos, negsuc}
use lib.Dec.{T, ltb, leb, eqb, ltb→lt, lt→ltb, leb→le, eqb→eq}
use lib.Pow.{pow-add, pow_pos, pow-lt}
use lib.Ieee.{Float, nan, inf, fin, Format, prec, emax, low, up, down, fits, lt, le, eq, below, level}
use lib.Ieee.Digits.{back}
use lib.Ieee.Fits.{and_l, and_r, up_pos, down_pos, eq→eqb, and_i}
use lib.Ieee.Exact.{HasValue}
use lib.Ieee.Scale.{finite, overflow}
use Rattle.math_elementary.proofs.AtMost.{or_l, or_r}
use Rattle.search.specs.Line.{shift, mag, from, place}
use Rattle.search.proofs.Near.{Short}
use Rattle.search.proofs.Narrowing.{Point, right, left}

-- a finite value that the format holds
pub record Real (f : Format) (x : Float) : Type 0 where
  pub is_finite : T (finite x)
  pub holds : T (fits f x)

-- ---- what the format asks of a value
pub record Fields (f : Format) (m : ℕ) (e : ℤ) : Type 0 where
  pub short : m < 2 ^ prec f
  pub deep : down e ≤ 2 ^ low f
  pub under : m * up e < 2 ^ suc (emax f) * down e

fields : (f : Format) (s : Bool) (m : ℕ) (e : ℤ) → T (fits f (fin s m e)) → Fields f m e
unfolding fits
fields f s zero e t =
    let a : up e * down e ≡ 1 = eqb→eq (up e * down e) 1 t in
    let b : 1 * down e ≤ up e * down e = mul-le-mul_right (down e) (up_pos e) in
    record {
      short = pow_pos (prec f);
      deep = le_trans (le_trans (le_of_eq (sym (one-mul (down e)))) (le_trans b (le_of_eq a))) (pow_pos (low f));
      under = subst (λ (x : ℕ). x < 2 ^ suc (emax f) * down e) (sym (zero-mul (up e))) (mul-pos (pow_pos (suc (emax f))) (down_pos e));
    }
fields f s (suc m) e t =
    let a : Bool = eqb (suc m % 2) 1 in
    let b : Bool = ltb (suc m) (2 ^ prec f) in
    let c : Bool = leb (down e) (2 ^ low f) in
    let d : Bool = ltb (suc m * up e) (2 ^ suc (emax f) * down e) in
    record {
      short = ltb→lt (suc m) (2 ^ prec f) (and_r a b (and_l (a && b) c (and_l (a && b && c) d t)));
      deep = leb→le (down e) (2 ^ low f) (and_r (a && b) c (and_l (a && b && c) d t));
      under = ltb→lt (suc m * up e) (2 ^ suc (emax f) * down e) (and_r (a && b && c) d t);
    }

-- the value in units
mag_value : (f : Format) (s : Bool) (m : ℕ) (e : ℤ) → down e ≤ 2 ^ low f → mag f (fin s m e) * down e ≡ m * up e * 2 ^ low f
unfolding mag
mag_value f s m (pos k) h = mul-one (m * 2 ^ (k + low f)) ∙ ap (λ (x : ℕ). m * x) (pow-add 2 k (low f)) ∙ sym (mul_assoc m (2 ^ k) (2 ^ low f))
mag_value f s m (negsuc k) h =
    mul_assoc m (2 ^ (low f - suc k)) (2 ^ suc k) ∙ ap (λ (x : ℕ). m * x) (sym (pow-add 2 (low f - suc k) (suc k)) ∙ ap (λ (x : ℕ). 2 ^ x) (back (low f) (suc k) (deep_enough (suc k) (low f) h)))
    ∙ sym (ap (λ (x : ℕ). x * 2 ^ low f) (mul-one m))
  where
    deep_enough : (i j : ℕ) → 2 ^ i ≤ 2 ^ j → i ≤ j
    deep_enough i j g = elim (dec_lt j i) [ yes l ↦ absurd (let a = pow-lt l in omega arith) | no l ↦ omega arith ]

module _ (f : Format) (s : Bool) (m : ℕ) (e : ℤ) (h : T (fits f (fin s m e))) where
  pub mag_is : mag f (fin s m e) * down e ≡ m * up e * 2 ^ low f
  mag_is = mag_value f s m e (fields f s m e h).deep

  -- by any fraction that the value equals, in units
  pub mag_of : (t : Bool) (a : ℕ) → HasValue (fin s m e) t a (2 ^ low f) → mag f (fin s m e) ≡ a
  mag_of t a v = eq_of_mul-eq-mul_right (down e) (down_pos e) (mag f (fin s m e)) a (mag_is ∙ v.1)

  pub mag_under : mag f (fin s m e) < overflow f
  mag_under =
      lt_of_mul-lt-mul_right (down e)
      (subst (λ (x : ℕ). x < overflow f * down e) (sym mag_is)
      (subst (λ (x : ℕ). m * up e * 2 ^ low f < x) (mul_right_comm (2 ^ suc (emax f)) (down e) (2 ^ low f) ∙ ap (λ (x : ℕ). x * down e) (mul_comm (2 ^ suc (emax f)) (2 ^ low f) ∙ sym (pow-add 2 (low f) (suc (emax f)))))
      (mul-lt-mul_of_pos_right (fields f s m e h).under (pow_pos (low f)))))

  mag_short : Short (prec f) (mag f (fin s m e))
  unfolding mag
  mag_short = record { digits = m; zeros = shift (low f) e; small = le_of_lt (fields f s m e h).short; is = refl }

from_point : (p o : ℕ) (s : Bool) (x : ℕ) → x < o → Short p x → Point p o (from o s x)
from_point p o false x h k = right x k refl
from_point p o true x h k = left x k (omega arith)

from_line : (o : ℕ) (s : Bool) (x : ℕ) → x < o → (0 < from o s x) × (from o s x < o * 2)
from_line o false x h = omega arith
from_line o true x h = omega arith

pub place_point : (f : Format) (x : Float) → Real f x → Point (prec f) (overflow f) (place f x)
unfolding place
place_point f nan r = absurd r.is_finite
place_point f (inf s) r = absurd r.is_finite
place_point f (fin s m e) r = from_point (prec f) (overflow f) s (mag f (fin s m e)) (mag_under f s m e r.holds) (mag_short f s m e r.holds)

pub place_line : (f : Format) (x : Float) → Real f x → (0 < place f x) × (place f x < overflow f * 2)
unfolding place
place_line f nan r = absurd r.is_finite
place_line f (inf s) r = absurd r.is_finite
place_line f (fin s m e) r = from_line (overflow f) s (mag f (fin s m e)) (mag_under f s m e r.holds)

-- ---- the order
-- two fractions a / c and b / c, x and y in units of 1 / l
same_order : (a b c x y l : ℕ) → 0 < l → a * l ≡ x * c → b * l ≡ y * c → a < b → x < y
same_order a b c x y l L p q h = lt_of_mul-lt-mul_right c (subst (λ (z : ℕ). z < y * c) p (subst (λ (z : ℕ). a * l < z) q (mul-lt-mul_of_pos_right h L)))

same_level : (a b c x y l : ℕ) → 0 < l → a * l ≡ x * c → b * l ≡ y * c → x ≡ y → a ≡ b
same_level a b c x y l L p q h = eq_of_mul-eq-mul_right l L a b (p ∙ ap (λ (z : ℕ). z * c) h ∙ sym q)

or_split : (a b : Bool) → T (a || b) → T a ⊎ T b
or_split true b t = inl tt
or_split false b t = inr t

-- a / c and b / c are x and y units, of which the line has o either way
module _ (o a b c x y l : ℕ) (X : x < o) (Y : y < o) (L : 0 < l) (C : 0 < c) (p : a * l ≡ x * c) (q : b * l ≡ y * c) where
  both : (a + b) * l ≡ (x + y) * c
  both = add-mul a b l ∙ ap (λ (z : ℕ). z + b * l) p ∙ ap (λ (z : ℕ). x * c + z) q ∙ sym (add-mul x y c)

  nil : (k l : ℕ) → 0 * k ≡ 0 * l
  nil k l = zero-mul k ∙ sym (zero-mul l)

  below→from : (s t : Bool) → T (below s a t b) → from o s x < from o t y
  below→from false false h = let k = same_order a b c x y l L p q (ltb→lt a b h) in omega arith
  below→from false true h = absurd h
  below→from true false h = let k = same_order 0 (a + b) c 0 (x + y) l L (nil l c) both (ltb→lt 0 (a + b) h) in omega arith
  below→from true true h = let k = same_order b a c y x l L q p (ltb→lt b a h) in omega arith

  from→below : (s t : Bool) → from o s x < from o t y → T (below s a t b)
  from→below false false h = lt→ltb a b (same_order x y l a b c C (sym p) (sym q) (omega arith))
  from→below false true h = absurd (omega arith)
  from→below true false h = lt→ltb 0 (a + b) (same_order 0 (x + y) l 0 (a + b) c C (nil c l) (sym both) (omega arith))
  from→below true true h = lt→ltb b a (same_order y x l b a c C (sym q) (sym p) (omega arith))

  level→from : (s t : Bool) → T (level s a t b) → from o s x ≡ from o t y
  level→from s t h = go s t (same_level x y l a b c C (sym p) (sym q) (eqb→eq a b (and_l (eqb a b) (beq s t || eqb a 0) h))) (or_split (beq s t) (eqb a 0) (and_r (eqb a b) (beq s t || eqb a 0) h))
    where
      none : T (eqb a 0) → x ≡ 0
      none k = same_level x 0 l a 0 c C (sym p) (nil c l) (eqb→eq a 0 k)

      go : (s t : Bool) → x ≡ y → T (beq s t) ⊎ T (eqb a 0) → from o s x ≡ from o t y
      go false false e k = omega arith
      go false true e (inl k) = absurd k
      go false true e (inr k) = let z = none k in omega arith
      go true false e (inl k) = absurd k
      go true false e (inr k) = let z = none k in omega arith
      go true true e k = omega arith

  from→level : (s t : Bool) → from o s x ≡ from o t y → T (level s a t b)
  from→level false false h = and_i (eqb a b) true (eq→eqb (same_level a b c x y l L p q (omega arith))) tt
  from→level false true h =
      and_i (eqb a b) (eqb a 0) (eq→eqb (same_level a b c x y l L p q (omega arith))) (eq→eqb (same_level a 0 c x 0 l L p (nil l c) (omega arith)))
  from→level true false h =
      and_i (eqb a b) (eqb a 0) (eq→eqb (same_level a b c x y l L p q (omega arith))) (eq→eqb (same_level a 0 c x 0 l L p (nil l c) (omega arith)))
  from→level true true h = and_i (eqb a b) true (eq→eqb (same_level a b c x y l L p q (omega arith))) tt

-- the common fraction of two values
module _ (f : Format) (s : Bool) (m : ℕ) (e : ℤ) (t : Bool) (n : ℕ) (d : ℤ) (h : T (fits f (fin s m e))) (k : T (fits f (fin t n d))) where
  pub left_value : m * up e * down d * 2 ^ low f ≡ mag f (fin s m e) * (down e * down d)
  left_value = mul_right_comm (m * up e) (down d) (2 ^ low f) ∙ ap (λ (x : ℕ). x * down d) (sym (mag_is f s m e h)) ∙ mul_assoc (mag f (fin s m e)) (down e) (down d)

  pub right_value : n * up d * down e * 2 ^ low f ≡ mag f (fin t n d) * (down e * down d)
  right_value =
      mul_right_comm (n * up d) (down e) (2 ^ low f) ∙ ap (λ (x : ℕ). x * down e) (sym (mag_is f t n d k)) ∙ mul_assoc (mag f (fin t n d)) (down d) (down e)
      ∙ ap (λ (x : ℕ). mag f (fin t n d) * x) (mul_comm (down d) (down e))

pub lt→place : (f : Format) (x y : Float) → Real f x → Real f y → T (lt x y) → place f x < place f y
unfolding lt place
lt→place f nan y r q h = absurd r.is_finite
lt→place f (inf s) y r q h = absurd r.is_finite
lt→place f (fin s m e) nan r q h = absurd q.is_finite
lt→place f (fin s m e) (inf t) r q h = absurd q.is_finite
lt→place f (fin s m e) (fin t n d) r q h =
    below→from (overflow f) (m * up e * down d) (n * up d * down e) (down e * down d) (mag f (fin s m e)) (mag f (fin t n d)) (2 ^ low f) (mag_under f s m e r.holds) (mag_under f t n d q.holds) (pow_pos (low f)) (mul-pos (down_pos e) (down_pos d))
    (left_value f s m e t n d r.holds q.holds) (right_value f s m e t n d r.holds q.holds) s t h

pub place→lt : (f : Format) (x y : Float) → Real f x → Real f y → place f x < place f y → T (lt x y)
unfolding lt place
place→lt f nan y r q h = absurd r.is_finite
place→lt f (inf s) y r q h = absurd r.is_finite
place→lt f (fin s m e) nan r q h = absurd q.is_finite
place→lt f (fin s m e) (inf t) r q h = absurd q.is_finite
place→lt f (fin s m e) (fin t n d) r q h =
    from→below (overflow f) (m * up e * down d) (n * up d * down e) (down e * down d) (mag f (fin s m e)) (mag f (fin t n d)) (2 ^ low f) (mag_under f s m e r.holds) (mag_under f t n d q.holds) (pow_pos (low f)) (mul-pos (down_pos e) (down_pos d))
    (left_value f s m e t n d r.holds q.holds) (right_value f s m e t n d r.holds q.holds) s t h

pub eq→place : (f : Format) (x y : Float) → Real f x → Real f y → T (eq x y) → place f x ≡ place f y
unfolding eq place
eq→place f nan y r q h = absurd r.is_finite
eq→place f (inf s) y r q h = absurd r.is_finite
eq→place f (fin s m e) nan r q h = absurd q.is_finite
eq→place f (fin s m e) (inf t) r q h = absurd q.is_finite
eq→place f (fin s m e) (fin t n d) r q h =
    level→from (overflow f) (m * up e * down d) (n * up d * down e) (down e * down d) (mag f (fin s m e)) (mag f (fin t n d)) (2 ^ low f) (mag_under f s m e r.holds) (mag_under f t n d q.holds) (pow_pos (low f)) (mul-pos (down_pos e) (down_pos d))
    (left_value f s m e t n d r.holds q.holds) (right_value f s m e t n d r.holds q.holds) s t h

pub place→eq : (f : Format) (x y : Float) → Real f x → Real f y → place f x ≡ place f y → T (eq x y)
unfolding eq place
place→eq f nan y r q h = absurd r.is_finite
place→eq f (inf s) y r q h = absurd r.is_finite
place→eq f (fin s m e) nan r q h = absurd q.is_finite
place→eq f (fin s m e) (inf t) r q h = absurd q.is_finite
place→eq f (fin s m e) (fin t n d) r q h =
    from→level (overflow f) (m * up e * down d) (n * up d * down e) (down e * down d) (mag f (fin s m e)) (mag f (fin t n d)) (2 ^ low f) (mag_under f s m e r.holds) (mag_under f t n d q.holds) (pow_pos (low f)) (mul-pos (down_pos e) (down_pos d))
    (left_value f s m e t n d r.holds q.holds) (right_value f s m e t n d r.holds q.holds) s t h

pub le→place : (f : Format) (x y : Float) → Real f x → Real f y → T (le x y) → place f x ≤ place f y
unfolding le
le→place f x y r q h = ⊎_elim (λ k. le_of_lt (lt→place f x y r q k)) (λ k. le_of_eq (eq→place f x y r q k)) (or_split (lt x y) (eq x y) h)

pub place→le : (f : Format) (x y : Float) → Real f x → Real f y → place f x ≤ place f y → T (le x y)
unfolding le
place→le f x y r q h =
    elim (dec_lt (place f x) (place f y)) [
      | yes k ↦ or_l (lt x y) (eq x y) (place→lt f x y r q k)
      | no k ↦ or_r (lt x y) (eq x y) (place→eq f x y r q (omega arith))
    ]
