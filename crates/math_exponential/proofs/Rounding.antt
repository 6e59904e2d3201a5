-- p + 1.5 × 2^52, rounded, is a whole number, and its bits show it. Less 1.5 × 2^52 again, it is the whole number nearest to p where it is less than 1/2 from p.
-- That it is less than 1/2 away is what the code tests, so it does not matter to which whole number the sum is rounded; the test's own rounding keeps the order. Assumes nothing.
use Rattle.std.proofs.Common.{◌≡◌, ℕ, zero, suc, ◌+◌, ◌-◌, ◌*◌, ◌/◌, ◌%◌, ◌^◌, ◌<◌, ◌≤◌, Bool, true, false, cond, not, T, ltb, ◌⊎◌, ℤ, pos, negsuc, ◌-ℤ◌, neg_ℤ, sym, refl, ap, ◌∙◌, subst, ap₂, inl, inr, true≢false, le_trans, le_of_eq, lt_of_lt_of_le, mul-le-mul_right, mul_assoc, mul_comm, div-lt_iff_lt-mul, add-mul, le_antisymm, mul-lt-mul_of_pos_right, mul-pos, one-mul, lt_of_not-le, le-div_iff_mul-le, zero-mul, mul-one, mul_right_comm, div-one, mul-div_cancel, mul_left_comm, arith, lit<, leb→le, pow_pos, pow-add, ltb-false, ltb-true}
use mathlib.Core.Bool.{beq, false≢true}
use Prim.Native.Nat.{compare}
use native.Mathlib.Nat.{mod-one, div-le_of_le-mul, div-eq_of_lt-le}
use lib.IntN.{sub_ℕ}
use lib.Signed.{mag}
use lib.Ieee.{Float, nan, inf, fin, binary64, up, down, size, units, round, sum, add, sub, neg, lt, le, of_int, of_bits, to_bits, is_nan}
use lib.Ieee.Back.{round_whole}
use lib.Ieee.Exact.{HasValue}
use lib.Ieee.Fits.{down_pos, nearest-le, round_is}
use lib.Ieee.Nearest.{closest, closest_same, nearest-ge}
use lib.Ieee.Order.{round_mono}
use Rattle.ieee.proofs.Sums.{sum_like, sum_less, sum_more, sum_level, sum_same}
use Rattle.math_exponential.specs.Exp.{moderate, nearest_whole}
use Rattle.math_elementary.proofs.AtMost.{or_le}
use Rattle.math_elementary.proofs.Digits53.{size_is}
use Rattle.math_elementary.proofs.Ints.{subℕ_le, subℕ_lt}
use Rattle.math_exponential.proofs.Nearest.{sgn}
use Rattle.math_exponential.proofs.Range.{round_neg, round_sgn}
use Rattle.math_elementary.proofs.Unique.{units_by}

-- ---- from 2^52 up and below 2^53 a fraction is rounded to a whole number
size_there : (l n c : ℕ) → 0 < c → 2 ^ 52 * c ≤ n → n < 2 ^ 53 * c → size (n * 2 ^ l / c) ≡ suc (52 + l)
size_there l n c C lo hi =
    size_is (n * 2 ^ l / c) (52 + l)
    ((le-div_iff_mul-le C).1 (le_trans (le_of_eq (ap (λ (x : ℕ). x * c) (pow-add 2 52 l) ∙ mul_right_comm (2 ^ 52) (2 ^ l) c)) (mul-le-mul_right (2 ^ l) lo)))
    ((div-lt_iff_lt-mul C).1 (lt_of_lt_of_le (mul-lt-mul_of_pos_right hi (pow_pos l)) (le_of_eq (mul_right_comm (2 ^ 53) c (2 ^ l) ∙ ap (λ (x : ℕ). x * c) (sym (pow-add 2 53 l) ∙ ap (λ (z : ℕ). 2 ^ z) (let q : 53 + l ≡ suc (52 + l) = omega arith in q))))))

to_units : (n c : ℕ) → 0 < c → 2 ^ 52 * c ≤ n → n < 2 ^ 53 * c → round binary64 false n c ≡ units binary64 false (closest n c) 1074
to_units n c C lo hi =
    round_is binary64 false n c
    ∙ ap (λ (k : ℕ). units binary64 false (closest (n * 2 ^ 1074) (c * 2 ^ k)) k) (ap (λ (z : ℕ). z - 53) (size_there 1074 n c C lo hi))
    ∙ ap (λ (q : ℕ). units binary64 false q 1074) (closest_same (n * 2 ^ 1074) (c * 2 ^ 1074) n c (mul-pos C (pow_pos 1074)) C (over (2 ^ 1074)))
  where
    over : (p : ℕ) → n * p * c ≡ n * (c * p)
    over p = mul_right_comm n p c ∙ mul_assoc n c p

whole_closest : (n : ℕ) → closest n 1 ≡ n
whole_closest n = rw (mod-one, div-one)

to_whole : (n c : ℕ) → 0 < c → 2 ^ 52 * c ≤ n → n < 2 ^ 53 * c → closest n c < 2 ^ 53 → round binary64 false n c ≡ round binary64 false (closest n c) 1
to_whole n c C lo hi under =
    to_units n c C lo hi
    ∙ ap (λ (q : ℕ). units binary64 false q 1074) (sym (whole_closest (closest n c)))
    ∙ sym (to_units (closest n c) 1 (lit< tt) (le_trans (le_of_eq (mul-one (2 ^ 52))) (le_trans ((le-div_iff_mul-le C).1 lo) (nearest-ge (n / c) (compare (n % c * 2) c)))) (lt_of_lt_of_le under (le_of_eq (sym (mul-one (2 ^ 53))))))

-- the bits of such a whole number
whole_bits : (x : Float) (n : ℕ) → HasValue x false n 1 → 2 ^ 52 ≤ n → n < 2 ^ 53 → to_bits binary64 x ≡ 1074 * 4503599627370496 + n
unfolding to_bits
whole_bits nan n v lo hi = absurd v
whole_bits (inf s) n v lo hi = absurd v
whole_bits (fin s m e) n v lo hi =
    ap (λ (t : Bool). to_bits binary64 (fin t m e)) v.0
    ∙ ap (λ (u : ℕ). 0 + (size u - 53) * 4503599627370496 + u / 2 ^ (size u - 53)) (units_by binary64 m e n 1 (lit< tt) v.1)
    ∙ ap (λ (k : ℕ). 0 + k * 4503599627370496 + n * 2 ^ 1074 / 1 / 2 ^ k) (ap (λ (z : ℕ). z - 53) (size_there 1074 n 1 (lit< tt) (omega arith) (omega arith)))
    ∙ ap (λ (q : ℕ). 1074 * 4503599627370496 + q) (ap (λ (q : ℕ). q / 2 ^ 1074) (div-one (n * 2 ^ 1074)) ∙ mul-div_cancel n (pow_pos 1074))

-- ---- p + 1.5 × 2^52, as a fraction
abbrev middle : ℕ
middle = 6755399441055744

abbrev lifted : Bool → ℕ → ℕ → ℕ
lifted s a c = cond s (middle * c - a) (middle * c + a)

lifts : (s : Bool) (a c : ℕ) → 0 < c → a ≤ 1200 * c → sum binary64 s (a * 1) false (middle * c) (c * 1) ≡ round binary64 false (lifted s a c) c
lifts true a c C h =
    sum_less binary64 true (a * 1) false (middle * c) (c * 1) refl (omega arith)
    ∙ ap₂ (λ (x y : ℕ). round binary64 false (middle * c - x) y) (mul-one a) (mul-one c)
lifts false a c C h =
    sum_like binary64 false (a * 1) false (middle * c) (c * 1) refl
    ∙ ap₂ (λ (x y : ℕ). round binary64 false x y) (let q : a * 1 + middle * c ≡ middle * c + a = omega arith in q) (mul-one c)

lifted_from : (s : Bool) (a c : ℕ) → a ≤ 1200 * c → (6755399441054544 * c ≤ lifted s a c) × (lifted s a c ≤ c * 6755399441056944)
lifted_from true a c h = (omega arith, omega arith)
lifted_from false a c h = (omega arith, omega arith)

-- what the rounded sum is
abbrev landed : Float → ℕ
landed nan = 0
landed (inf s) = 0
landed (fin s m e) = closest (lifted s (m * up e) (down e)) (down e)

module _ (s : Bool) (a c : ℕ) (C : 0 < c) (h : a ≤ 1200 * c) where
  closest_from : 6755399441054544 ≤ closest (lifted s a c) c
  closest_from = le_trans ((le-div_iff_mul-le C).1 (lifted_from s a c h).0) (nearest-ge (lifted s a c / c) (compare (lifted s a c % c * 2) c))

  closest_to : closest (lifted s a c) c ≤ 6755399441056945
  closest_to = omega (arith, nearest-le (lifted s a c / c) (compare (lifted s a c % c * 2) c), div-le_of_le-mul c (lifted_from s a c h).1)

  sum_lands : sum binary64 s (a * 1) false (middle * c) (c * 1) ≡ round binary64 false (closest (lifted s a c) c) 1
  sum_lands =
      lifts s a c C h
      ∙ to_whole (lifted s a c) c C (omega (arith, (lifted_from s a c h).0)) (omega (arith, (lifted_from s a c h).1)) (omega (arith, closest_to))

abbrev pub rounder : Float
rounder = of_bits binary64 0x4338_0000_0000_0000

landed_range : (p : Float) → T (moderate p) → (6755399441054544 ≤ landed p) × (landed p ≤ 6755399441056945)
landed_range nan h = absurd h
landed_range (inf s) h = absurd h
landed_range (fin s m e) h =
    let l : m * up e ≤ 1200 * down e = leb→le _ _ h in
    (closest_from s (m * up e) (down e) (down_pos e) l, closest_to s (m * up e) (down e) (down_pos e) l)

lands : (p : Float) → T (moderate p) → add binary64 p rounder ≡ round binary64 false (landed p) 1
unfolding add of_bits
lands nan h = absurd h
lands (inf s) h = absurd h
lands (fin s m e) h = sum_lands s (m * up e) (down e) (down_pos e) (leb→le _ _ h)

-- ---- of two numbers one is less, or they are the same
order : (x y : ℕ) → (x < y) ⊎ ((y < x) ⊎ (x ≡ y))
order x y = go (ltb x y) (ltb y x) (ltb-true x y) (ltb-false x y) (ltb-true y x) (ltb-false y x)
  where
    go : (p q : Bool) → (p ≡ true → x < y) → (p ≡ false → y ≤ x) → (q ≡ true → y < x) → (q ≡ false → x ≤ y) → (x < y) ⊎ ((y < x) ⊎ (x ≡ y))
    go true q a b c d = inl (a refl)
    go false true a b c d = inr (inl (c refl))
    go false false a b c d = inr (inr (le_antisymm (d refl) (b refl)))

-- ---- less 1.5 × 2^52 again: a whole number, as it is converted from an integer
less : (n : ℕ) → sum binary64 false n true middle 1 ≡ of_int binary64 (sub_ℕ n middle)
unfolding of_int
less n = elim (order n middle) [
  | inl h ↦
      sum_less binary64 false n true middle 1 refl h
      ∙ ap (λ (k : ℕ). round binary64 true k 1) (let q : middle - n ≡ suc (middle - suc n) = omega arith in q)
      ∙ ap (λ (z : ℤ). of_int binary64 z) (sym (subℕ_lt n middle h))
  | inr (inl h) ↦
      sum_more binary64 false n true middle 1 refl h
      ∙ ap (λ (z : ℤ). of_int binary64 z) (sym (subℕ_le n middle (omega arith)))
  | inr (inr h) ↦
      sum_level binary64 false n true middle 1 refl h
      ∙ ap (λ (k : ℕ). round binary64 false k 1) (let q : 0 ≡ n - middle = omega arith in q)
      ∙ ap (λ (z : ℤ). of_int binary64 z) (sym (subℕ_le n middle (omega arith)))
]

taken_off : (x : Float) (n : ℕ) → HasValue x false n 1 → sub binary64 x rounder ≡ of_int binary64 (sub_ℕ n middle)
unfolding sub add neg of_bits
taken_off nan n v = absurd v
taken_off (inf s) n v = absurd v
taken_off (fin s m e) n v =
    ap (λ (t : Bool). sum binary64 t (m * up e * 1) true (middle * down e) (down e * 1)) v.0
    ∙ sum_same binary64 false (m * up e * 1) true (middle * down e) (down e * 1) n middle 1 (mul-pos (down_pos e) (lit< tt)) (lit< tt)
    (let q : m * up e * 1 ≡ n * down e = v.1 in mul-one (m * up e * 1) ∙ q ∙ ap (λ (x : ℕ). n * x) (sym (mul-one (down e))))
    (omega arith)
    ∙ less n

-- ---- a float less a whole number
apart : (s : Bool) (m : ℕ) (e : ℤ) (y : Float) (t : Bool) (j : ℕ) → HasValue y t j 1 → sub binary64 (fin s m e) y ≡ sum binary64 s (m * up e) (not t) (j * down e) (down e)
unfolding sub add neg
apart s m e nan t j v = absurd v
apart s m e (inf u) t j v = absurd v
apart s m e (fin u n d) t j v =
    ap (λ (x : Bool). sum binary64 s (m * up e * down d) (not x) (n * up d * down e) (down e * down d)) v.0
    ∙ sum_same binary64 s (m * up e * down d) (not t) (n * up d * down e) (down e * down d) (m * up e) (j * down e) (down e) (mul-pos (down_pos e) (down_pos d)) (down_pos e)
    (across (m * up e) (down e) (down d))
    (ap (λ (x : ℕ). x * down e * down e) (sym (mul-one (n * up d)) ∙ v.1) ∙ around j (down e) (down d))
  where
    across : (a c d : ℕ) → a * d * c ≡ a * (c * d)
    across a c d = mul_right_comm a d c ∙ mul_assoc a c d

    around : (j c d : ℕ) → j * d * c * c ≡ j * c * (c * d)
    around j c d = simp (mul_assoc, mul_comm)

-- ---- a fraction whose rounding lies strictly between -1/2 and 1/2 lies there itself
abbrev half : Float
half = of_bits binary64 0x3fe0_0000_0000_0000

not_both : (y : Float) → sgn y ≡ false → lt y half ≡ true → T (le half y) → ⊥
unfolding lt le of_bits
not_both nan s h k = absurd k
not_both (inf true) s h k = absurd (true≢false s)
not_both (inf false) s h k = absurd (false≢true h)
not_both (fin true n d) s h k = absurd (true≢false s)
not_both (fin false n d) s h k =
    let a : n * up d * 2 < 1 * down d = ltb-true (n * up d * 2) (1 * down d) h in
    let b : 1 * down d ≤ n * up d * 2 = or_le (1 * down d) (n * up d * 2) true k in
    omega arith

half_is : round binary64 false 1 2 ≡ half
unfolding round of_bits
half_is = refl

below_half : (x c : ℕ) → 0 < c → lt (round binary64 false x c) half ≡ true → 2 * x < c
below_half x c C h =
    lt_of_not-le (λ (g : c ≤ 2 * x). not_both (round binary64 false x c) (round_sgn binary64 x c) h
    (subst (λ (z : Float). T (le z (round binary64 false x c))) half_is (round_mono binary64 1 2 x c (lit< tt) C (let q : 1 * c ≤ x * 2 = omega arith in q))))

turned : (y : Float) → sgn y ≡ false → lt (neg half) (neg y) ≡ true → lt y half ≡ true
unfolding lt neg of_bits
turned nan s h = h
turned (inf true) s h = absurd (true≢false s)
turned (inf false) s h = h
turned (fin true n d) s h = absurd (true≢false s)
turned (fin false n d) s h = h

round_near : (u : Bool) (x c : ℕ) → 0 < c → lt (round binary64 u x c) half ≡ true → lt (neg half) (round binary64 u x c) ≡ true → 2 * x < c
round_near false x c C h k = below_half x c C h
round_near true x c C h k = below_half x c C (turned (round binary64 false x c) (round_sgn binary64 x c) (rw (round_neg binary64 x c) at k))

-- ±a / c ± b / c, of which the same is known
module _ (s : Bool) (a : ℕ) (t : Bool) (b c : ℕ) (C : 0 < c) (h : lt (sum binary64 s a t b c) half ≡ true) (k : lt (neg half) (sum binary64 s a t b c) ≡ true) where
  rounds_to : (u : Bool) (x : ℕ) → sum binary64 s a t b c ≡ round binary64 u x c → 2 * x < c
  rounds_to u x e = round_near u x c C (ap (λ (y : Float). lt y half) (sym e) ∙ h) (ap (λ (y : Float). lt (neg half) y) (sym e) ∙ k)

  like_near : beq s t ≡ true → 2 * (a + b) < c
  like_near e = rounds_to s (a + b) (sum_like binary64 s a t b c e)

  unlike_near : beq s t ≡ false → (2 * a < 2 * b + c) × (2 * b < 2 * a + c)
  unlike_near e = elim (order a b) [
    | inl g ↦ let q : 2 * (b - a) < c = rounds_to t (b - a) (sum_less binary64 s a t b c e g) in (omega arith, omega arith)
    | inr (inl g) ↦ let q : 2 * (a - b) < c = rounds_to s (a - b) (sum_more binary64 s a t b c e g) in (omega arith, omega arith)
    | inr (inr g) ↦ (omega arith, omega arith)
  ]

-- ---- a whole number that is less than 1/2 from p is the nearest
quotient : (a c j : ℕ) → 0 < c → 2 * a < 2 * (j * c) + c → 2 * (j * c) < 2 * a + c → (2 * a + c) / (2 * c) ≡ j
quotient a c j C h k =
    let q : j * (2 * c) ≡ 2 * (j * c) = mul_left_comm j 2 c in
    let r : (j + 1) * (2 * c) ≡ 2 * (j * c) + 2 * c = add-mul j 1 (2 * c) ∙ ap₂ ◌+◌ q (one-mul (2 * c)) in
    div-eq_of_lt-le (2 * c) (omega arith) (omega arith)

-- of unlike sign, it can only be 0
none_over : (a c j : ℕ) → 2 * (a + j * c) < c → (j ≡ 0) × ((2 * a + c) / (2 * c) ≡ 0)
none_over a c zero h = (refl, quotient a c 0 (omega arith) (omega (arith, zero-mul c)) (omega (arith, zero-mul c)))
none_over a c (suc j) h = absurd (let l : 1 * c ≤ suc j * c = mul-le-mul_right c (omega arith) in let z : ⊥ = omega (arith, one-mul c) in z)

module _ (s : Bool) (m : ℕ) (e : ℤ) (t : Bool) (j : ℕ) (l : j ≤ 2 ^ 53) (h : lt (sub binary64 (fin s m e) (round binary64 t j 1)) half ≡ true) (k : lt (neg half) (sub binary64 (fin s m e) (round binary64 t j 1)) ≡ true) where
  parted : sub binary64 (fin s m e) (round binary64 t j 1) ≡ sum binary64 s (m * up e) (not t) (j * down e) (down e)
  parted = apart s m e (round binary64 t j 1) t j (round_whole binary64 t j l)

  same_side : beq s (not t) ≡ false → (2 * (m * up e) + down e) / (2 * down e) ≡ j
  same_side u =
      let q = unlike_near s (m * up e) (not t) (j * down e) (down e) (down_pos e) (rw parted at h) (rw parted at k) u in
      quotient (m * up e) (down e) j (down_pos e) q.0 q.1

  other_side : beq s (not t) ≡ true → (j ≡ 0) × ((2 * (m * up e) + down e) / (2 * down e) ≡ 0)
  other_side u = none_over (m * up e) (down e) j (like_near s (m * up e) (not t) (j * down e) (down e) (down_pos e) (rw parted at h) (rw parted at k) u)

near_whole : (s : Bool) (m : ℕ) (e : ℤ) (z : ℤ) → mag z < 2 ^ 53 → lt (sub binary64 (fin s m e) (of_int binary64 z)) half ≡ true → lt (neg half) (sub binary64 (fin s m e) (of_int binary64 z)) ≡ true
    → z ≡ nearest_whole (fin s m e)
unfolding nearest_whole of_int
near_whole false m e (pos j) l h k = ap pos (sym (same_side false m e false j (omega arith) h k refl))
near_whole false m e (negsuc j) l h k = absurd (let q : suc j ≡ 0 = (other_side false m e true (suc j) l h k refl).0 in let z : ⊥ = omega arith in z)
near_whole true m e (pos j) l h k =
    let q = other_side true m e false j (omega arith) h k refl in
    ap pos q.0 ∙ ap (λ (n : ℕ). neg_ℤ (pos n)) (sym q.1)
near_whole true m e (negsuc j) l h k = ap (λ (n : ℕ). neg_ℤ (pos n)) (sym (same_side true m e true (suc j) l h k refl))

near_is : (p : Float) (z : ℤ) → T (moderate p) → mag z < 2 ^ 53 → lt (sub binary64 p (of_int binary64 z)) half ≡ true → lt (neg half) (sub binary64 p (of_int binary64 z)) ≡ true → z ≡ nearest_whole p
near_is nan z g l h k = absurd g
near_is (inf s) z g l h k = absurd g
near_is (fin s m e) z g l h k = near_whole s m e z l h k

-- ---- of a float of moderate size
-- the digits of the sum's bits, less those of 1.5 × 2^52 - 2048, less 2048
offset : (n : ℕ) → 6755399441053696 ≤ n → pos (n - 6755399441053696) -ℤ pos 2048 ≡ sub_ℕ n middle
offset n l = elim (lt_or_not n) [
  | inl h ↦
      subℕ_lt (n - 6755399441053696) 2048 (omega arith)
      ∙ ap negsuc (let q : 2048 - suc (n - 6755399441053696) ≡ middle - suc n = omega arith in q)
      ∙ sym (subℕ_lt n middle h)
  | inr h ↦
      subℕ_le (n - 6755399441053696) 2048 (omega arith)
      ∙ ap pos (let q : n - 6755399441053696 - 2048 ≡ n - middle = omega arith in q)
      ∙ sym (subℕ_le n middle h)
]
  where
    lt_or_not : (n : ℕ) → (n < middle) ⊎ (middle ≤ n)
    lt_or_not n = elim (order n middle) [ inl h ↦ inl h | inr (inl h) ↦ inr (omega arith) | inr (inr h) ↦ inr (omega arith) ]

offset_mag : (n : ℕ) → 6755399441054544 ≤ n → n ≤ 6755399441056945 → mag (sub_ℕ n middle) < 2000
offset_mag n l h = go (ltb n middle)
  where
    go : (t : Bool) → mag (cond t (negsuc (middle - suc n)) (pos (n - middle))) < 2000
    go true = omega arith
    go false = omega arith

real : (x : Float) (s : Bool) (n d : ℕ) → HasValue x s n d → T (not (is_nan x))
unfolding is_nan
real nan s n d v = absurd v
real (inf t) s n d v = tt
real (fin t m e) s n d v = tt

module _ (p : Float) (g : T (moderate p)) where
  -- the whole number that is found
  abbrev pub found : ℤ
  found = sub_ℕ (landed p) middle

  value : HasValue (add binary64 p rounder) false (landed p) 1
  value = rw (lands p g) (round_whole binary64 false (landed p) (omega (arith, landed_range p g)))

  pub sum_real : T (not (is_nan (add binary64 p rounder)))
  sum_real = real (add binary64 p rounder) false (landed p) 1 value

  bits_are : to_bits binary64 (add binary64 p rounder) ≡ 1074 * 4503599627370496 + landed p
  bits_are = whole_bits (add binary64 p rounder) (landed p) value (omega (arith, landed_range p g)) (omega (arith, landed_range p g))

  pub bits_from : 4843621399236966400 ≤ to_bits binary64 (add binary64 p rounder)
  bits_from = omega (arith, bits_are, landed_range p g)

  pub bits_to : to_bits binary64 (add binary64 p rounder) - 4843621399236966400 < 4096
  bits_to = omega (arith, bits_are, landed_range p g)

  pub bits_show : pos (to_bits binary64 (add binary64 p rounder) - 4843621399236966400) -ℤ pos 2048 ≡ found
  bits_show =
      ap (λ (n : ℕ). pos n -ℤ pos 2048) (let q : to_bits binary64 (add binary64 p rounder) - 4843621399236966400 ≡ landed p - 6755399441053696 = omega (arith, bits_are, landed_range p g) in q)
      ∙ offset (landed p) (omega (arith, landed_range p g))

  pub found_mag : mag found < 2000
  found_mag = offset_mag (landed p) (landed_range p g).0 (landed_range p g).1

  pub less_is : sub binary64 (add binary64 p rounder) rounder ≡ of_int binary64 found
  less_is = taken_off (add binary64 p rounder) (landed p) value

  pub found_is : lt (sub binary64 p (sub binary64 (add binary64 p rounder) rounder)) half ≡ true → lt (neg half) (sub binary64 p (sub binary64 (add binary64 p rounder) rounder)) ≡ true → found ≡ nearest_whole p
  found_is h k = near_is p found g (omega (arith, found_mag)) (rw less_is at h) (rw less_is at k)
