-- How lib.Ieee's `round` sees a whole number of units 2 ^ -(low + c): it drops T digits, where T is the least that leaves `prec` of them and is c at least (`round_int`).
-- And what it does not see: where in the open interval between A * 2 ^ j and (A + 1) * 2 ^ j a number lies, if fewer than T digits lie below j (`round_close`).
-- Assumes nothing.
use mathlib.Core.Path.{◌≡◌, sym, ap, ap₂, ◌∙◌, subst}
use mathlib.Core.Logic.{◌⊎◌, inl, inr}
use mathlib.Core.Bool.{Bool, true, false, not, cond}
use Prim.Native.Nat.compare
use Prim.Native.Nat.{ℕ, zero, suc, ◌+◌, ◌-◌, ◌*◌, ◌/◌, ◌%◌, ◌^◌, ◌≤◌, ◌<◌, min, max, compare, Ordering}
use native.Mathlib.Nat.{le_trans, le_of_eq, le_of_lt, le_of_suc-le-suc, lt_of_lt_of_le, lt_of_not-le, not-le_of_lt, not-suc-le-zero, lt_irrefl, zero-lt-suc, eq-zero-or-pos, add_comm, suc-mul, mul_comm, mul_assoc, mul_right_comm, mul-pos, mul-le-mul_right, mul-lt-mul_of_pos_right, mod-lt, div-add-mod', div-lt_iff_lt-mul, le-div_iff_mul-le, pow-suc, pow-succ', add-sub_of_le, le_antisymm}
use native.Mathlib.Omega.{arith}
use lib.Dec.{T, ltb, ltb→lt, nltb→le}
use lib.Arith.{digits_div, digits_mod}
use lib.Pow.{pow-add, pow_pos, pow_mono, shr-shr, mod-pow-add}
use lib.Ieee.{Format, prec, low, size, nearest, units, round}
use lib.Ieee.Digits.{size-lt, size-le, size_reaches}
use lib.Ieee.Fits.{round_is, two, two-le_pos}
use lib.Ieee.Nearest.{closest, closest_same, div_same}
use Rattle.ieee_words.specs.Words.{jammed}

-- ---- powers and sizes

pub pow_lt_back : (i p : ℕ) → 2 ^ i < 2 ^ p → i < p
pow_lt_back i p h = lt_of_not-le (λ (g : p ≤ i). lt_irrefl (2 ^ i) (lt_of_lt_of_le h (pow_mono g)))

pub size_gt : (n j : ℕ) → 2 ^ j ≤ n → j < size n
size_gt n j h = lt_of_not-le (λ (g : size n ≤ j). not-le_of_lt (lt_of_lt_of_le (size-lt n) (pow_mono g)) h)

-- ---- which digits are dropped

-- of the number a, whose last c digits lie below the format's smallest value, T digits are dropped
pub record Drops (f : Format) (c a T : ℕ) : Type 0 where
  pub low : c ≤ T
  pub under : a < 2 ^ (T + prec f)
  pub over : c < T → 2 ^ (T + (prec f - 1)) ≤ a

pub dropped : (f : Format) (c a T : ℕ) → Drops f c a T → size (a / 2 ^ c) - prec f ≡ T - c
dropped f c a T h =
    let p = prec f in
    let k = T - c in
    let join : k + c ≡ T = sub_add (T) c h.low in
    let le : size (a / 2 ^ c) ≤ k + p =
    size-le (a / 2 ^ c) (k + p)
    ((div-lt_iff_lt-mul (pow_pos c)).1
    (lt_of_lt_of_le h.under (le_of_eq (ap (λ (x : ℕ). 2 ^ x) (sym (ap (λ (x : ℕ). x + p) join) ∙ swap k c p) ∙ pow-add 2 (k + p) c)))) in
    elim (eq-zero-or-pos k) [
      | inl z ↦ none (size (a / 2 ^ c)) p k z le
      | inr g ↦
          all (size (a / 2 ^ c)) p k (two-le_pos p (two f)) le
          (size_gt (a / 2 ^ c) (k + (p - 1))
          ((le-div_iff_mul-le (pow_pos c)).1
          (le_trans (le_of_eq (sym (pow-add 2 (k + (p - 1)) c) ∙ ap (λ (x : ℕ). 2 ^ x) (sym (swap k c (p - 1)) ∙ ap (λ (x : ℕ). x + (p - 1)) join))) (h.over (above T c h.low g)))))
    ]
  where
    sub_add : (T c : ℕ) → c ≤ T → T - c + c ≡ T
    sub_add T c h = omega arith

    swap : (k c p : ℕ) → k + c + p ≡ k + p + c
    swap k c p = omega arith

    none : (z p k : ℕ) → k ≡ 0 → z ≤ k + p → z - p ≡ k
    none z p k e h = omega arith

    all : (z p k : ℕ) → 0 < p → z ≤ k + p → k + (p - 1) < z → z - p ≡ k
    all z p k P h g = omega arith

    above : (T c : ℕ) → c ≤ T → 0 < T - c → c < T
    above T c h g = omega arith

pub round_int : (f : Format) (s : Bool) (c a T : ℕ) → Drops f c a T → round f s a (2 ^ (low f + c)) ≡ units f s (closest a (2 ^ T)) (T - c)
round_int f s c a T h =
    let l = low f in
    let n = a * 2 ^ l in
    let den = 2 ^ (l + c) in
    let q : n / den ≡ a / 2 ^ c = div_same n den a (2 ^ c) (pow_pos (l + c)) (pow_pos c) (mul_assoc a (2 ^ l) (2 ^ c) ∙ ap (λ (x : ℕ). a * x) (sym (pow-add 2 l c))) in
    let k : size (n / den) - prec f ≡ T - c = ap (λ (x : ℕ). size x - prec f) q ∙ dropped f c a T h in
    round_is f s a den
    ∙ ap (λ (x : ℕ). units f s (closest n (den * 2 ^ x)) x) k
    ∙ ap (λ (x : ℕ). units f s x (T - c))
    (closest_same n (den * 2 ^ (T - c)) a (2 ^ T) (mul-pos (pow_pos (l + c)) (pow_pos (T - c))) (pow_pos T)
    (mul_assoc a (2 ^ l) (2 ^ T)
    ∙ ap (λ (x : ℕ). a * x) (sym (pow-add 2 l T) ∙ ap (λ (x : ℕ). 2 ^ x) (join l T c h.low) ∙ pow-add 2 (l + c) (T - c))))
  where
    join : (l T c : ℕ) → c ≤ T → l + T ≡ l + c + (T - c)
    join l T c h = omega arith

-- ---- the order of two numbers

pub order : (a b : ℕ) → (a < b) ⊎ ((b < a) ⊎ (a ≡ b))
order a b = go (ltb a b) (ltb b a) (ltb→lt a b) (nltb→le a b) (ltb→lt b a) (nltb→le b a)
  where
    go : (x y : Bool) → (T x → a < b) → (T (not x) → b ≤ a) → (T y → b < a) → (T (not y) → a ≤ b) → (a < b) ⊎ ((b < a) ⊎ (a ≡ b))
    go true y p q r s = inl (p tt)
    go false true p q r s = inr (inl (r tt))
    go false false p q r s = inr (inr (le_antisymm (s tt) (q tt)))

-- ---- what `compare` says, from the order

pub compare_lt : (a b : ℕ) → a < b → compare a b ≡ Ordering.lt
compare_lt a zero h = absurd (not-suc-le-zero h)
compare_lt zero (suc b) h = compare.zero-suc b
compare_lt (suc a) (suc b) h = compare.suc-suc a b ∙ compare_lt a b (le_of_suc-le-suc h)

pub compare_gt : (a b : ℕ) → b < a → compare a b ≡ Ordering.gt
compare_gt zero b h = absurd (not-suc-le-zero h)
compare_gt (suc a) zero h = compare.suc-zero a
compare_gt (suc a) (suc b) h = compare.suc-suc a b ∙ compare_gt a b (le_of_suc-le-suc h)

-- ---- numbers inside an interval

pub record Inside (j A a : ℕ) : Type 0 where
  pub above : A * 2 ^ j < a
  pub below : a < suc A * 2 ^ j

-- a is A * 2 ^ j + r with r above 0 and below 2 ^ j
rest_of : (p A a : ℕ) → A * p < a → a < suc A * p → (r : ℕ) × (a ≡ A * p + r) × (0 < r) × (r < p)
rest_of p A a x y = (
  a - A * p,
  sym (add-sub_of_le (le_of_lt x)),
  pos (A * p) a x,
  lt (A * p) a p x (subst (λ (n : ℕ). a < n) (suc-mul A p) y),
)
  where
    pos : (b a : ℕ) → b < a → 0 < a - b
    pos b a h = omega arith

    lt : (b a p : ℕ) → b < a → a < b + p → a - b < p
    lt b a p h g = omega arith

-- whole numbers by halves: h of 2 * v is below a half or not
abbrev pub side : ℕ → ℕ → Ordering
side h v = cond (ltb h v) Ordering.lt Ordering.gt

under_half : (h v p r : ℕ) → h < v → r < p → (h * p + r) * 2 < v * 2 * p
under_half h v p r x y =
    let g : suc h * p ≤ v * p = mul-le-mul_right p x in
    let k : suc h * p ≡ h * p + p = suc-mul h p in
    let m : v * 2 * p ≡ v * p * 2 = mul_right_comm v 2 p in
    omega arith

over_half : (h v p r : ℕ) → v ≤ h → 0 < r → v * 2 * p < (h * p + r) * 2
over_half h v p r x y =
    let g : v * p ≤ h * p = mul-le-mul_right p x in
    let m : v * 2 * p ≡ v * p * 2 = mul_right_comm v 2 p in
    omega arith

sided : (h v p r : ℕ) → 0 < r → r < p → compare ((h * p + r) * 2) (v * 2 * p) ≡ side h v
sided h v p r x y = go (ltb h v) (ltb→lt h v) (nltb→le h v)
  where
    go : (b : Bool) → (T b → h < v) → (T (not b) → v ≤ h) → compare ((h * p + r) * 2) (v * 2 * p) ≡ cond b Ordering.lt Ordering.gt
    go true f g = compare_lt ((h * p + r) * 2) (v * 2 * p) (under_half h v p r (f tt) y)
    go false f g = compare_gt ((h * p + r) * 2) (v * 2 * p) (over_half h v p r (g tt) x)

-- the nearest multiple of 2 ^ (v + 1 + j) to an a inside is told by A alone
pub closest_inside : (j v A a : ℕ) → Inside j A a → closest a (2 ^ (suc v + j)) ≡ nearest (A / 2 ^ suc v) (side (A % 2 ^ suc v) (2 ^ v))
closest_inside j v A a h =
    let p = 2 ^ j in
    let w = 2 ^ suc v in
    let t = rest_of p A a h.above h.below in
    let r = t.0 in
    let cut : a / p ≡ A = ap (λ (x : ℕ). x / p) t.1 ∙ digits_div A t.3 in
    let low : a % p ≡ r = ap (λ (x : ℕ). x % p) t.1 ∙ digits_mod A t.3 in
    let q : a / 2 ^ (suc v + j) ≡ A / w = ap (λ (x : ℕ). a / 2 ^ x) (add_comm (suc v) j) ∙ sym (shr-shr a j (suc v)) ∙ ap (λ (x : ℕ). x / w) cut in
    let m : a % 2 ^ (suc v + j) ≡ A % w * p + r = mod-pow-add a (suc v) j ∙ ap₂ (λ (x y : ℕ). x % w * p + y) cut low in
    ap₂ (λ (x y : ℕ). nearest x (compare (y * 2) (2 ^ (suc v + j)))) q m
    ∙ ap (λ (x : ℕ). nearest (A / w) (compare ((A % w * p + r) * 2) x)) (pow-add 2 (suc v) j ∙ ap (λ (x : ℕ). x * p) (pow-suc 2 v))
    ∙ ap (nearest (A / w)) (sided (A % w) (2 ^ v) p r t.2 t.3)

-- ---- two numbers that round alike: they are equal, or lie inside the same interval
abbrev pub Close : ℕ → ℕ → ℕ → ℕ → Type 0
Close j A a b = (a ≡ b) ⊎ (Inside j A a × Inside j A b)

pub closest_close : (j t A a b : ℕ) → j < t → Close j A a b → closest a (2 ^ t) ≡ closest b (2 ^ t)
closest_close j t A a b h (inl e) = ap (λ (x : ℕ). closest x (2 ^ t)) e
closest_close j t A a b h (inr i) =
    let v = t - suc j in
    subst (λ (x : ℕ). closest a (2 ^ x) ≡ closest b (2 ^ x)) (join j t h) (closest_inside j v A a i.0 ∙ sym (closest_inside j v A b i.1))
  where
    join : (j t : ℕ) → j < t → suc (t - suc j) + j ≡ t
    join j t h = omega arith

inside_drops : (f : Format) (c j A a : ℕ) → Inside j A a → prec f < size A → Drops f c a (max (size A + j - prec f) c)
inside_drops f c j A a i h =
    let n = size A in
    let p = prec f in
    let T = max (n + j - p) c in
    record {
      low = at_least (n + j - p) c;
      under = lt_of_lt_of_le i.below (le_trans (mul-le-mul_right (2 ^ j) (size-lt A)) (le_trans (le_of_eq (sym (pow-add 2 n j))) (pow_mono (reach n j p c h))));
      over = λ g.
          le_trans (pow_mono (exact n j p c h (two-le_pos p (two f)) g))
          (le_trans (le_of_eq (pow-add 2 (n - 1) j)) (le_trans (mul-le-mul_right (2 ^ j) (size_reaches A (n - 1) (pred_lt n p h))) (le_of_lt i.above)));
    }
  where
    at_least : (a c : ℕ) → c ≤ max a c
    at_least a c = omega arith

    reach : (n j p c : ℕ) → p < n → n + j ≤ max (n + j - p) c + p
    reach n j p c h = omega arith

    exact : (n j p c : ℕ) → p < n → 0 < p → c < max (n + j - p) c → max (n + j - p) c + (p - 1) ≤ n - 1 + j
    exact n j p c h P g = omega arith

    pred_lt : (n p : ℕ) → p < n → n - 1 < n
    pred_lt n p h = omega arith

pub round_close : (f : Format) (s : Bool) (c j A a b : ℕ) → prec f < size A → Close j A a b → round f s a (2 ^ (low f + c)) ≡ round f s b (2 ^ (low f + c))
round_close f s c j A a b h (inl e) = ap (λ (x : ℕ). round f s x (2 ^ (low f + c))) e
round_close f s c j A a b h (inr i) =
    let T = max (size A + j - prec f) c in
    round_int f s c a T (inside_drops f c j A a i.0 h)
    ∙ ap (λ (x : ℕ). units f s x (T - c)) (closest_close j T A a b (over (size A) j (prec f) c h) (inr i))
    ∙ sym (round_int f s c b T (inside_drops f c j A b i.1 h))
  where
    over : (n j p c : ℕ) → p < n → j < max (n + j - p) c
    over n j p c h = omega arith

-- ---- a shift that leaves a sticky digit for what it drops

pub jam_close : (m d e : ℕ) → Close (suc (e + d)) (m / 2 ^ d) (2 * m * 2 ^ e) (jammed m d * 2 ^ (e + d))
jam_close m d e = go (m / 2 ^ d) (m % 2 ^ d) (div-add-mod' m (2 ^ d)) (mod-lt m (pow_pos d))
  where
    weight : 2 ^ (e + d) ≡ 2 ^ d * 2 ^ e
    weight = pow-add 2 e d ∙ mul_comm (2 ^ e) (2 ^ d)

    unit : (q : ℕ) → q * 2 ^ suc (e + d) ≡ 2 * q * (2 ^ d * 2 ^ e)
    unit q = ap (λ (x : ℕ). q * x) (pow-succ' 2 (e + d)) ∙ sym (mul_assoc q 2 (2 ^ (e + d))) ∙ ap₂ ◌*◌ (mul_comm q 2) weight

    -- with u for 2 ^ e and p for 2 ^ d
    same : (q p u : ℕ) → 2 * (q * p + 0) * u ≡ (2 * q + 0) * (p * u)
    same q p u = omega arith

    above_1 : (q p u r : ℕ) → 0 < r * u → 2 * q * (p * u) < 2 * (q * p + r) * u
    above_1 q p u r h = omega arith

    below_1 : (q p u r : ℕ) → r * u < p * u → 2 * (q * p + r) * u < 2 * suc q * (p * u)
    below_1 q p u r h = omega arith

    above_2 : (q x : ℕ) → 0 < x → 2 * q * x < (2 * q + 1) * x
    above_2 q x h = omega arith

    below_2 : (q x : ℕ) → 0 < x → (2 * q + 1) * x < 2 * suc q * x
    below_2 q x h = omega arith

    go : (q r : ℕ) → q * 2 ^ d + r ≡ m → r < 2 ^ d → Close (suc (e + d)) q (2 * m * 2 ^ e) ((2 * q + min r 1) * 2 ^ (e + d))
    go q zero k l = inl (ap (λ (x : ℕ). 2 * x * 2 ^ e) (sym k) ∙ same q (2 ^ d) (2 ^ e) ∙ ap (λ (x : ℕ). (2 * q + 0) * x) (sym weight))
    go q (suc r) k l =
        let p = 2 ^ d in
        let u = 2 ^ e in
        let one : min (suc r) 1 ≡ 1 = omega arith in
        inr (
          record {
            above = subst (λ (x : ℕ). x < 2 * m * u) (sym (unit q)) (subst (λ (x : ℕ). 2 * q * (p * u) < 2 * x * u) k (above_1 q p u (suc r) (mul-pos (zero-lt-suc r) (pow_pos e))));
            below = subst (λ (x : ℕ). 2 * m * u < x) (sym (unit (suc q))) (subst (λ (x : ℕ). 2 * x * u < 2 * suc q * (p * u)) k (below_1 q p u (suc r) (mul-lt-mul_of_pos_right l (pow_pos e))));
          },
          subst (λ (b : ℕ). Inside (suc (e + d)) q ((2 * q + b) * 2 ^ (e + d))) (sym one)
              (subst (λ (x : ℕ). Inside (suc (e + d)) q ((2 * q + 1) * x)) (sym weight)
              (record {
                above = subst (λ (x : ℕ). x < (2 * q + 1) * (p * u)) (sym (unit q)) (above_2 q (p * u) (mul-pos (pow_pos d) (pow_pos e)));
                below = subst (λ (x : ℕ). (2 * q + 1) * (p * u) < x) (sym (unit (suc q))) (below_2 q (p * u) (mul-pos (pow_pos d) (pow_pos e)));
              })),
        )
