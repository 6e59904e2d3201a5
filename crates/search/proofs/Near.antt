-- A fraction rounded to a grid of numbers with at most p binary digits: no number of the grid is nearer. Natural numbers only. Assumes nothing.
use mathlib.Core.Path.{◌≡◌, refl, sym, ap, ◌∙◌, subst}
use Prim.Native.Nat.{ℕ, zero, suc, ◌+◌, ◌-◌, ◌*◌, ◌/◌, ◌%◌, ◌^◌, ◌≤◌, ◌<◌, compare, Ordering}
use native.Mathlib.Nat.{le_trans, le_of_eq, mul_comm, mul_assoc, mul_left_comm, mul_right_comm, mul-one, one-mul, mul-le-mul_right, mul-pos, le_of_mul-le-mul_right, eq_of_mul-eq-mul_right, div-add-mod', mod-lt, le-div_iff_mul-le, div-div-eq-div-mul, pow-suc}
use native.Mathlib.Decide.{dec_lt}
use native.Mathlib.Omega.{arith}
use mathlib.Core.Bool.{not}
use lib.Dec.{T, is_le, compare_is_eq, leb→le, nleb→lt, eqb→eq}
use lib.Pow.{pow-add, pow_pos, pow_mono}
use lib.Ieee.{nearest, size}
use lib.Ieee.Digits.{size_reaches, back}
use lib.Ieee.Fits.{nearest-le, kept-lt}
use lib.Ieee.Nearest.{closest}
use lib.Ieee.Order.{drop, kept}

-- x is at most r away from n
pub record Near (n r x : ℕ) : Type 0 where
  pub above : x ≤ n + r
  pub below : n ≤ x + r

-- ---- what `compare` says, of a strict order and of a tie
abbrev Cmp : Ordering → ℕ → ℕ → Type 0
Cmp Ordering.lt a b = a ≤ b
Cmp Ordering.eq a b = a ≡ b
Cmp Ordering.gt a b = b < a

cmp : (a b : ℕ) → Cmp (compare a b) a b
cmp a b = go (compare a b) (leb→le a b) (nleb→lt a b) (eqb→eq a b)
  where
    go : (o : Ordering) → (T (is_le o) → a ≤ b) → (T (not (is_le o)) → b < a) → (T (compare_is_eq o) → a ≡ b) → Cmp o a b
    go Ordering.lt h k e = h tt
    go Ordering.eq h k e = e tt
    go Ordering.gt h k e = k tt

-- ---- the whole number nearest to a / b, b times: half of b away from a at most
abbrev pub Half : ℕ → ℕ → ℕ → Type 0
Half a b c = Near (a * 2) b (c * b * 2)

at_tie : (q r b t : ℕ) → t < 2 → r * 2 ≡ b → Half (q * b + r) b (q + t)
at_tie q r b zero h e = omega arith
at_tie q r b (suc zero) h e = omega arith
at_tie q r b (suc (suc t)) h e = omega arith

half_go : (q r b : ℕ) (o : Ordering) → Cmp o (r * 2) b → r < b → Half (q * b + r) b (nearest q o)
half_go q r b Ordering.lt c h = omega arith
half_go q r b Ordering.eq c h = at_tie q r b (q % 2) (omega arith) c
half_go q r b Ordering.gt c h = omega arith

pub closest_half : (a b : ℕ) → 0 < b → Half a b (closest a b)
closest_half a b B =
    subst (λ (x : ℕ). Half x b (closest a b)) (div-add-mod' a b) (half_go (a / b) (a % b) b (compare (a % b * 2) b) (cmp (a % b * 2) b) (mod-lt a B))

-- so no other multiple of b is nearer to a
closest_near : (a b z r : ℕ) → 0 < b → Near a r (z * b) → Near a r (closest a b * b)
closest_near a b z r B h =
    let c = closest a b in
    let k : Half a b c = closest_half a b B in
    elim (dec_lt c z) [
      | yes l ↦ omega (arith, mul-le-mul_right b l)
      | no l ↦ elim (dec_lt z c) [
        | yes m ↦ omega (arith, mul-le-mul_right b m)
        | no m ↦ subst (λ (x : ℕ). Near a r (x * b)) (omega arith) h
      ]
    ]

-- ---- a number of at most p digits and some zeros after them; 2 ^ p itself is one too
pub record Short (p z : ℕ) : Type 0 where
  pub digits : ℕ
  pub zeros : ℕ
  pub small : digits ≤ 2 ^ p
  pub is : z ≡ digits * 2 ^ zeros

-- n / den rounded to such a number
abbrev pub rounded : ℕ → ℕ → ℕ → ℕ
rounded p n den = kept p n den * 2 ^ drop p n den

pub kept_le : (p n den : ℕ) → kept p n den ≤ 2 ^ p
kept_le p n den =
    let k = drop p n den in
    let u = den * 2 ^ k in
    le_trans (nearest-le (n / u) (compare (n % u * 2) u)) (subst (λ (x : ℕ). x < 2 ^ p) (div-div-eq-div-mul n den (2 ^ k)) (kept-lt p (n / den)))

pub rounded_short : (p n den : ℕ) → Short p (rounded p n den)
rounded_short p n den = record { digits = kept p n den; zeros = drop p n den; small = kept_le p n den; is = refl }

-- by multiples of 2 ^ drop
by_multiple : (p n den z r : ℕ) → 0 < den → Near n r (z * (den * 2 ^ drop p n den)) → Near n r (rounded p n den * den)
by_multiple p n den z r D h =
    let k = drop p n den in
    subst (λ (x : ℕ). Near n r x) (sym (mul_assoc (kept p n den) den (2 ^ k)) ∙ mul_right_comm (kept p n den) den (2 ^ k))
    (closest_near n (den * 2 ^ k) z r (mul-pos D (pow_pos k)) h)

all_in_use : (z p j k : ℕ) → 0 < p → z - p ≡ k → j < k → p - 1 + k < z
all_in_use z p j k P e h = omega arith

room : (p j k : ℕ) → 0 < p → j < k → p + j ≤ p - 1 + k
room p j k P h = omega arith

closer : (n r x y : ℕ) → x ≤ y → y ≤ n → Near n r x → Near n r y
closer n r x y h k a = omega arith

pub rounded_near : (p n den z r : ℕ) → 0 < p → 0 < den → Short p z → Near n r (z * den) → Near n r (rounded p n den * den)
rounded_near p n den z r P D s h =
    let k = drop p n den in
    let q = s.digits in
    let j = s.zeros in
    elim (dec_lt j k) [
      | yes l ↦
          let low : 2 ^ (p - 1 + k) * den ≤ n = (le-div_iff_mul-le D).0 (size_reaches (n / den) (p - 1 + k) (all_in_use (size (n / den)) p j k P refl l)) in
          let up : z * den ≤ 2 ^ (p - 1 + k) * den =
          mul-le-mul_right den (le_trans (le_of_eq s.is) (le_trans (mul-le-mul_right (2 ^ j) s.small) (le_trans (le_of_eq (sym (pow-add 2 p j))) (pow_mono (room p j k P l))))) in
          let e : 2 ^ (p - 1 + k) * den ≡ 2 ^ (p - 1) * (den * 2 ^ k) = rw (pow-add 2 (p - 1) k) (mul_assoc (2 ^ (p - 1)) (2 ^ k) den ∙ ap (λ (x : ℕ). 2 ^ (p - 1) * x) (mul_comm (2 ^ k) den)) in
          by_multiple p n den (2 ^ (p - 1)) r D (subst (λ (x : ℕ). Near n r x) e (closer n r (z * den) (2 ^ (p - 1 + k) * den) up low h))
      | no l ↦
          let f : 2 ^ (j - k) * 2 ^ k ≡ 2 ^ j = sym (pow-add 2 (j - k) k) ∙ ap (λ (x : ℕ). 2 ^ x) (back j k (omega arith)) in
          let e : z * den ≡ q * 2 ^ (j - k) * (den * 2 ^ k) =
          ap (λ (x : ℕ). x * den) (s.is ∙ ap (λ (x : ℕ). q * x) (sym f)) ∙ simp (mul_assoc, mul_comm, mul_left_comm) in
          by_multiple p n den (q * 2 ^ (j - k)) r D (subst (λ (x : ℕ). Near n r x) e h)
    ]

-- ---- the same for a fraction a * l / (c * l), by its parts a and c
scale_near : (n r x l : ℕ) → Near n r x → Near (n * l) (r * l) (x * l)
scale_near n r x l h = record { above = omega (arith, mul-le-mul_right l h.above); below = omega (arith, mul-le-mul_right l h.below) }

unscale_near : (n r x l : ℕ) → 0 < l → Near (n * l) (r * l) (x * l) → Near n r x
unscale_near n r x l L h = record { above = le_of_mul-le-mul_right {k = l} (omega (arith, h)) L; below = le_of_mul-le-mul_right {k = l} (omega (arith, h)) L }

pub rounded_near_of : (p a c l z r : ℕ) → 0 < p → 0 < c → 0 < l → Short p z → Near a r (z * c) → Near a r (rounded p (a * l) (c * l) * c)
rounded_near_of p a c l z r P C L s h =
    let g = rounded p (a * l) (c * l) in
    unscale_near a r (g * c) l L
    (subst (λ (x : ℕ). Near (a * l) (r * l) x) (sym (mul_assoc g c l))
    (rounded_near p (a * l) (c * l) z (r * l) P (mul-pos C L) s (subst (λ (x : ℕ). Near (a * l) (r * l) x) (mul_assoc z c l) (scale_near a r (z * c) l h))))

-- ---- two roundings, of a and then of half the result, are one: nothing of the grid is nearer to a / 2
-- a rounded is a, or twice a number of the grid
data Halves (p a g : ℕ) : Type 0 where
  same : g ≡ a → Halves p a g
  twice : (y : ℕ) → Short p y → g ≡ y * 2 → Halves p a g

exact : (x y : ℕ) → Near x 0 y → y ≡ x
exact x y h = omega arith

halves : (p a l : ℕ) → 0 < l → Halves p a (rounded p (a * l) l)
halves p a l L = go (drop p (a * l) l) refl
  where
    go : (k : ℕ) → drop p (a * l) l ≡ k → Halves p a (rounded p (a * l) l)
    go zero e =
        let c = kept p (a * l) l in
        let n : Near (a * l) 0 (rounded p (a * l) l * l) =
        by_multiple p (a * l) l a 0 L (subst (λ (x : ℕ). Near (a * l) 0 (a * (l * 2 ^ x))) (sym e) (subst (λ (x : ℕ). Near (a * l) 0 (a * x)) (sym (mul-one l)) (omega arith))) in
        same (eq_of_mul-eq-mul_right l L (rounded p (a * l) l) a (exact (a * l) (rounded p (a * l) l * l) n))
    go (suc k) e =
        twice (kept p (a * l) l * 2 ^ k) (record { digits = kept p (a * l) l; zeros = k; small = kept_le p (a * l) l; is = refl })
        (ap (λ (x : ℕ). kept p (a * l) l * 2 ^ x) e ∙ ap (λ (x : ℕ). kept p (a * l) l * x) (pow-suc 2 k) ∙ sym (mul_assoc (kept p (a * l) l) (2 ^ k) 2))

short_twice : (p z : ℕ) → Short p z → Short p (z * 2)
short_twice p z s =
    record { digits = s.digits; zeros = suc s.zeros; small = s.small; is = ap (λ (x : ℕ). x * 2) s.is ∙ mul_assoc s.digits (2 ^ s.zeros) 2 ∙ ap (λ (x : ℕ). s.digits * x) (sym (pow-suc 2 s.zeros)) }

-- a rounded, and half of that rounded
abbrev pub middle : ℕ → ℕ → ℕ → ℕ
middle p l a = rounded p (rounded p (a * l) l * l) (2 * l)

pub middle_near : (p l a z r : ℕ) → 0 < p → 0 < l → Short p z → Near a r (z * 2) → Near a r (middle p l a * 2)
middle_near p l a z r P L s h = go (halves p a l L)
  where
    g : ℕ
    g = rounded p (a * l) l

    near : (y t : ℕ) → Short p y → Near g t (y * 2) → Near g t (middle p l a * 2)
    near y t u k = rounded_near_of p g 2 l y t P (omega arith) L u k

    go : Halves p a (rounded p (a * l) l) → Near a r (middle p l a * 2)
    go (same e) = subst (λ (x : ℕ). Near x r (middle p l a * 2)) e (near z r s (subst (λ (x : ℕ). Near x r (z * 2)) (sym e) h))
    go (twice y u e) =
        let m : middle p l a * 2 ≡ g = exact g (middle p l a * 2) (near y 0 u (subst (λ (x : ℕ). Near x 0 (y * 2)) (sym e) (omega arith))) in
        let f : Near a r (g * 1) =
        subst (λ (x : ℕ). Near a r (rounded p (a * l) x * 1)) (one-mul l)
        (rounded_near_of p a 1 l (z * 2) r P (omega arith) L (short_twice p z s) (subst (λ (x : ℕ). Near a r x) (sym (mul-one (z * 2))) h)) in
        subst (λ (x : ℕ). Near a r x) (mul-one g ∙ sym m) f

-- ---- a fraction up to a power of two rounds to a number up to that
pub power_short : (p j : ℕ) → Short p (2 ^ j)
power_short p j = record { digits = 1; zeros = j; small = pow_pos p; is = sym (one-mul (2 ^ j)) }

pub rounded_bound : (p a c l j : ℕ) → 0 < p → 0 < c → 0 < l → a ≤ 2 ^ j * c → rounded p (a * l) (c * l) ≤ 2 ^ j
rounded_bound p a c l j P C L h =
    let n = rounded_near_of p a c l (2 ^ j) (2 ^ j * c - a) P C L (power_short p j) (omega arith) in
    le_of_mul-le-mul_right {k = c} (omega arith) C

pub rounded_bound_one : (p a l j : ℕ) → 0 < p → 0 < l → a ≤ 2 ^ j → rounded p (a * l) l ≤ 2 ^ j
rounded_bound_one p a l j P L h = subst (λ (x : ℕ). rounded p (a * l) x ≤ 2 ^ j) (one-mul l) (rounded_bound p a 1 l j P (omega arith) L (omega arith))
