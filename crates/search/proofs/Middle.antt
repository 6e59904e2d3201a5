-- (x + y) / 2, rounded twice, is a value than which none is nearer to the middle of x and y. Assumes nothing.
use mathlib.Core.Path.{◌≡◌, refl, sym, ap, ◌∙◌, subst}
use Prim.Native.Nat.{ℕ, suc, ◌+◌, ◌-◌, ◌*◌, ◌^◌, ◌≤◌, ◌<◌}
use native.Mathlib.Nat.{le_trans, le_of_lt, lt_of_le_of_lt, mul_comm, mul_left_comm, mul-one, mul-pos, mul-le-mul_right, le_of_mul-le-mul_right, add-mul, mul-sub, pow-suc}
use native.Mathlib.Omega.{arith}
use mathlib.Core.Bool.{Bool, true, false, not, cond}
use lib.IntN.{pos}
use lib.Dec.{T, ltb, ltb→lt, nltb→le}
use lib.Pow.{pow_pos, pow-lt}
use lib.Ieee.{Float, nan, inf, fin, Format, prec, emax, low, up, down, round, sum, add, div, unlike}
use lib.Ieee.Fits.{down_pos, round-fits, round_is, two-le_pos, two}
use lib.Ieee.Exact.{HasValue, units_val}
use lib.Ieee.Order.{kept, drop}
use lib.Ieee.Scale.{finite, overflow, round_same, grid}
use Rattle.search.proofs.Near.{Near, rounded, rounded_bound, rounded_bound_one, middle}
use Rattle.search.proofs.Narrowing.{Mid, mid_right, mid_left}
use Rattle.search.specs.Line.{mag, place, from}
use Rattle.search.proofs.Place.{Real, mag_of, mag_under, left_value, right_value}

-- (x + y) / 2
abbrev two_value : Float
two_value = fin false 1 (pos 1)

unfoldable pub midway : Format → Float → Float → Float
midway f x y = div f (add f x y) two_value

-- the sum h of two places, as twice the origin's and an amount after or before it
abbrev pub Total : ℕ → Bool → ℕ → ℕ → Type 0
Total o false a h = h ≡ o * 2 + a
Total o true a h = h + a ≡ o * 2

pub record Added (f : Format) (h : ℕ) (w : Float) : Type 0 where
  pub sign : Bool
  pub amount : ℕ
  pub is : w ≡ round f sign amount (2 ^ low f)
  pub total : Total (overflow f) sign amount h

sub_mul : (a b c : ℕ) → (a - b) * c ≡ a * c - b * c
sub_mul a b c = mul_comm (a - b) c ∙ mul-sub c a b ∙ lemma (mul_comm c a) (mul_comm c b)
  where
    lemma : c * a ≡ a * c → c * b ≡ b * c → c * a - c * b ≡ a * c - b * c
    lemma e g = omega arith

module _ (f : Format) (a b c x y : ℕ) (C : 0 < c) (X : x < overflow f) (Y : y < overflow f) (p : a * 2 ^ low f ≡ x * c) (q : b * 2 ^ low f ≡ y * c) where
  o : ℕ
  o = overflow f

  plus : (a + b) * 2 ^ low f ≡ (x + y) * c
  plus = add-mul a b (2 ^ low f) ∙ ap (λ (z : ℕ). z + b * 2 ^ low f) p ∙ ap (λ (z : ℕ). x * c + z) q ∙ sym (add-mul x y c)

  less : (a - b) * 2 ^ low f ≡ (x - y) * c
  less = sub_mul a b (2 ^ low f) ∙ ap (λ (z : ℕ). z - b * 2 ^ low f) p ∙ ap (λ (z : ℕ). x * c - z) q ∙ sym (sub_mul x y c)

  more : (b - a) * 2 ^ low f ≡ (y - x) * c
  more = sub_mul b a (2 ^ low f) ∙ ap (λ (z : ℕ). z - a * 2 ^ low f) q ∙ ap (λ (z : ℕ). y * c - z) p ∙ sym (sub_mul y x c)

  up_order : a ≤ b → x ≤ y
  up_order h = le_of_mul-le-mul_right {k = c} (subst (λ (z : ℕ). z ≤ y * c) p (subst (λ (z : ℕ). a * 2 ^ low f ≤ z) q (mul-le-mul_right (2 ^ low f) h))) C

  down_order : b ≤ a → y ≤ x
  down_order h = le_of_mul-le-mul_right {k = c} (subst (λ (z : ℕ). z ≤ x * c) q (subst (λ (z : ℕ). b * 2 ^ low f ≤ z) p (mul-le-mul_right (2 ^ low f) h))) C

  at_units : (s : Bool) (n m : ℕ) → n * 2 ^ low f ≡ m * c → round f s n c ≡ round f s m (2 ^ low f)
  at_units s n m h = round_same f s n c m (2 ^ low f) C (pow_pos (low f)) h

  sum_added : (s t : Bool) → Added f (from (overflow f) s x + from (overflow f) t y) (sum f s a t b c)
  unfolding sum
  sum_added false false = record { sign = false; amount = x + y; is = at_units false (a + b) (x + y) plus; total = omega arith }
  sum_added true true = record { sign = true; amount = x + y; is = at_units true (a + b) (x + y) plus; total = omega arith }
  sum_added false true = go (ltb a b) (ltb→lt a b) (nltb→le a b)
    where
      go : (z : Bool) → (T z → a < b) → (T (not z) → b ≤ a) → Added f (overflow f + x + (overflow f - y)) (cond z (round f true (b - a) c) (round f false (a - b) c))
      go true h k = let g = up_order (le_of_lt (h tt)) in record { sign = true; amount = y - x; is = at_units true (b - a) (y - x) more; total = omega arith }
      go false h k = let g = down_order (k tt) in record { sign = false; amount = x - y; is = at_units false (a - b) (x - y) less; total = omega arith }
  sum_added true false = go (ltb a b) (ltb→lt a b) (nltb→le a b) (ltb b a) (ltb→lt b a) (nltb→le b a)
    where
      go : (z : Bool) → (T z → a < b) → (T (not z) → b ≤ a) → (w : Bool) → (T w → b < a) → (T (not w) → a ≤ b)
          → Added f (overflow f - x + (overflow f + y)) (cond z (round f false (b - a) c) (round f w (a - b) c))
      go true h k w i j = let g = up_order (le_of_lt (h tt)) in record { sign = false; amount = y - x; is = at_units false (b - a) (y - x) more; total = omega arith }
      go false h k true i j = let g = down_order (k tt) in record { sign = true; amount = x - y; is = at_units true (a - b) (x - y) less; total = omega arith }
      go false h k false i j = let g = down_order (k tt) in let g' = up_order (j tt) in record { sign = false; amount = x - y; is = at_units false (a - b) (x - y) less; total = omega arith }

pub added : (f : Format) (x y : Float) → Real f x → Real f y → Added f (place f x + place f y) (add f x y)
unfolding add place
added f nan y r q = absurd r.is_finite
added f (inf s) y r q = absurd r.is_finite
added f (fin s m e) nan r q = absurd q.is_finite
added f (fin s m e) (inf t) r q = absurd q.is_finite
added f (fin s m e) (fin t n d) r q =
    sum_added f (m * up e * down d) (n * up d * down e) (down e * down d) (mag f (fin s m e)) (mag f (fin t n d)) (mul-pos (down_pos e) (down_pos d)) (mag_under f s m e r.holds) (mag_under f t n d q.holds)
    (left_value f s m e t n d r.holds q.holds) (right_value f s m e t n d r.holds q.holds) s t

-- ---- a rounded value, in units
pub record Rounded (f : Format) (s : Bool) (g : ℕ) (w : Float) : Type 0 where
  pub real : Real f w
  pub value : HasValue w s g (2 ^ low f)

finite_of : (w : Float) (s : Bool) (a c : ℕ) → HasValue w s a c → T (finite w)
finite_of nan s a c h = absurd h
finite_of (inf t) s a c h = absurd h
finite_of (fin t m e) s a c h = tt

pub round_rounded : (f : Format) (s : Bool) (a c : ℕ) → grid f a c < overflow f → Rounded f s (grid f a c) (round f s a c)
round_rounded f s a c h =
    let v : HasValue (round f s a c) s (grid f a c) (2 ^ low f) =
    subst (λ (z : Float). HasValue z s (grid f a c) (2 ^ low f)) (sym (round_is f s a c)) (units_val f s (kept (prec f) (a * 2 ^ low f) c) (drop (prec f) (a * 2 ^ low f) c) h) in
    record { real = record { is_finite = finite_of (round f s a c) s (grid f a c) (2 ^ low f) v; holds = round-fits f s a c }; value = v }

pub place_rounded : (f : Format) (s : Bool) (g : ℕ) (w : Float) → Rounded f s g w → place f w ≡ from (overflow f) s g
unfolding place
place_rounded f s g nan r = absurd r.value
place_rounded f s g (inf t) r = absurd r.value
place_rounded f s g (fin t m e) r =
    ap (λ (x : ℕ). from (overflow f) t x) (mag_of f t m e r.real.holds s g r.value) ∙ ap (λ (u : Bool). from (overflow f) u g) r.value.0

-- ---- halved
unlike_false : (s : Bool) → unlike s false ≡ s
unlike_false true = refl
unlike_false false = refl

half_is : (f : Format) (s : Bool) (g : ℕ) (w : Float) → Rounded f s g w → div f w two_value ≡ round f s g (2 * 2 ^ low f)
unfolding div
half_is f s g nan r = absurd r.value
half_is f s g (inf t) r = absurd r.value
half_is f s g (fin t m e) r =
    ap (λ (u : Bool). round f u (m * up e * 1) (2 * down e)) (unlike_false t ∙ r.value.0)
    ∙ round_same f s (m * up e * 1) (2 * down e) g (2 * 2 ^ low f) (omega (arith, down_pos e)) (omega (arith, pow_pos (low f)))
    (ap (λ (x : ℕ). x * (2 * 2 ^ low f)) (mul-one (m * up e)) ∙ mul_left_comm (m * up e) 2 (2 ^ low f) ∙ ap (λ (x : ℕ). 2 * x) r.value.1 ∙ mul_left_comm 2 g (down e))

-- ---- the ends are at most 2 ^ b units from zero, and twice as much is no overflow
pub record Middled (f : Format) (x y m : Float) : Type 0 where
  pub real : Real f m
  pub mid : Mid (prec f) (overflow f) (place f x) (place f y) (place f m)

amount_le : (o : ℕ) (s : Bool) (a h b : ℕ) → Total o s a h → Near (o * 2) b h → a ≤ b
amount_le o false a h b t n = omega arith
amount_le o true a h b t n = omega arith

mid_from : (p o l lo hi m : ℕ) (s : Bool) (a : ℕ) → 0 < p → 0 < l → middle p l a ≤ o → Total o s a (lo + hi) → m ≡ from o s (middle p l a) → Mid p o lo hi m
mid_from p o l lo hi m false a P L u t e = mid_right p o l lo hi m a P L t e
mid_from p o l lo hi m true a P L u t e = mid_left p o l lo hi m a P L t (omega arith)

pub midway_is : (f : Format) (b : ℕ) (x y : Float) → Real f x → Real f y → suc b < low f + suc (emax f) → Near (overflow f) (2 ^ b) (place f x) → Near (overflow f) (2 ^ b) (place f y) → Middled f x y (midway f x y)
unfolding midway
midway_is f b x y r q B h k =
    let p = prec f in
    let l = 2 ^ low f in
    let P : 0 < p = two-le_pos p (two f) in
    let L : 0 < l = pow_pos (low f) in
    let s = added f x y r q in
    let a = s.amount in
    let g = rounded p (a * l) l in
    let u : 2 ^ suc b < overflow f = pow-lt B in
    let a_le : a ≤ 2 ^ suc b = amount_le (overflow f) s.sign a (place f x + place f y) (2 ^ suc b) s.total (doubled f b (place f x) (place f y) h k) in
    let g_le : g ≤ 2 ^ suc b = rounded_bound_one p a l (suc b) P L a_le in
    let m_le : middle p l a ≤ 2 ^ suc b = rounded_bound p g 2 l (suc b) P (two_pos 0) L (le_trans g_le (half_more (2 ^ suc b))) in
    let w : Rounded f s.sign g (add f x y) = subst (λ (z : Float). Rounded f s.sign g z) (sym s.is) (round_rounded f s.sign a l (lt_of_le_of_lt g_le u)) in
    let v : Rounded f s.sign (middle p l a) (div f (add f x y) two_value) =
    subst (λ (z : Float). Rounded f s.sign (middle p l a) z) (sym (half_is f s.sign g (add f x y) w)) (round_rounded f s.sign g (2 * l) (lt_of_le_of_lt m_le u)) in
    record {
      real = v.real;
      mid = mid_from p (overflow f) l (place f x) (place f y) (place f (div f (add f x y) two_value)) s.sign a P L (le_of_lt (lt_of_le_of_lt m_le u)) s.total (place_rounded f s.sign (middle p l a) (div f (add f x y) two_value) v);
    }
  where
    two_pos : ℕ → 0 < 2
    two_pos n = omega arith

    half_more : (n : ℕ) → n ≤ n * 2
    half_more n = omega arith

    doubled : (f : Format) (b x y : ℕ) → Near (overflow f) (2 ^ b) x → Near (overflow f) (2 ^ b) y → Near (overflow f * 2) (2 ^ suc b) (x + y)
    doubled f b x y h k = let e : 2 ^ suc b ≡ 2 ^ b * 2 = pow-suc 2 b in omega arith
