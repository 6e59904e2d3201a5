-- A number above zero in units of 2 ^ -1074: its digits, and the fields of its bit pattern.
use mathlib.Core.Path.{◌≡◌, refl, sym, ap, ◌∙◌}
use mathlib.Core.Bool.{true, false, not}
use Prim.Native.Nat.{ℕ, suc, ◌+◌, ◌-◌, ◌*◌, ◌/◌, ◌%◌, ◌^◌, ◌<◌, ◌≤◌}
use native.Mathlib.Omega.{arith}
use native.Mathlib.Nat.{le_trans, le_of_eq, le_antisymm, lt_of_lt_of_le, lt_of_not-le, not-le_of_lt, mul-pos, zero-add, mul-one, mul_assoc, mul-le-mul_right, mul-lt-mul_of_pos_right, mul-div_cancel, div-one, le-div_iff_mul-le, div-lt_iff_lt-mul, le_of_suc-le-suc, mod-eq_of_lt}
use lib.Dec.{T, ltb→lt}
use lib.Pow.{pow_pos, pow-add, pow_mono}
use lib.IntN.{ℤ, pos, negsuc}
use lib.Ieee.{Float, nan, inf, fin, binary64, up, down, size, fits, to_bits, is_nan}
use lib.Ieee.Digits.{size-lt, size_reaches, size-le}
use lib.Ieee.Positive.{positive}
use lib.Count.{count_leading_zeros, leading_top}
use Rattle.math_elementary.specs.Units.{Widened}
use Rattle.math_elementary.proofs.Fitting.{fits_digits, fits_low, pow_inj}

-- ---- how many digits a number has
pub size_is : (n z : ℕ) → 2 ^ z ≤ n → n < 2 ^ suc z → size n ≡ suc z
size_is n z lo hi = le_antisymm (size-le n (suc z) hi) (lt_of_not-le (λ (g : size n ≤ z). not-le_of_lt (lt_of_lt_of_le (size-lt n) (pow_mono g)) lo))

pub size_pos : (n : ℕ) → 0 < n → 0 < size n
size_pos n h = lt_of_not-le (λ (g : size n ≤ 0). not-le_of_lt (lt_of_lt_of_le (size-lt n) (pow_mono g)) h)

pub size_from : (n : ℕ) → 0 < n → 2 ^ (size n - 1) ≤ n
size_from n h = size_reaches n (size n - 1) (omega (arith, size_pos n h))

one_more : (z : ℕ) → 0 < z → suc (z - 1) ≡ z
one_more z h = omega arith

pub size_shift : (n j : ℕ) → 0 < n → size (n * 2 ^ j) ≡ size n + j
size_shift n j h =
    let z = size n - 1 in
    size_is (n * 2 ^ j) (z + j) (le_trans (le_of_eq (pow-add 2 z j)) (mul-le-mul_right (2 ^ j) (size_from n h)))
    (lt_of_lt_of_le (mul-lt-mul_of_pos_right (size-lt n) (pow_pos j)) (le_of_eq (sym (pow-add 2 (size n) j) ∙ ap (λ (x : ℕ). 2 ^ x) (let q : size n + j ≡ suc (size n - 1 + j) = omega (arith, size_pos n h) in q))))
    ∙ (let q : suc (size n - 1 + j) ≡ size n + j = omega (arith, size_pos n h) in q)

-- ---- the units are the significand moved up by e + 1074
abbrev pub lift : ℤ → ℕ
lift (pos k) = k + 1074
lift (negsuc k) = 1074 - suc k

pub units_is : (n : ℕ) (e : ℤ) → down e ≤ 2 ^ 1074 → n * up e * 2 ^ 1074 / down e ≡ n * 2 ^ lift e
units_is n (pos k) h = shifted 1074
  where
    shifted : (l : ℕ) → n * 2 ^ k * 2 ^ l / 1 ≡ n * 2 ^ (k + l)
    shifted l = div-one (n * 2 ^ k * 2 ^ l) ∙ mul_assoc n (2 ^ k) (2 ^ l) ∙ ap (λ (x : ℕ). n * x) (sym (pow-add 2 k l))
units_is n (negsuc k) h = shifted 1074 (pow_inj (suc k) 1074 h)
  where
    shifted : (l : ℕ) → suc k ≤ l → n * 1 * 2 ^ l / 2 ^ suc k ≡ n * 2 ^ (l - suc k)
    shifted l g =
        ap (λ (x : ℕ). x * 2 ^ l / 2 ^ suc k) (mul-one n)
        ∙ ap (λ (x : ℕ). n * x / 2 ^ suc k) (ap (λ (x : ℕ). 2 ^ x) (let q : l ≡ l - suc k + suc k = omega arith in q) ∙ pow-add 2 (l - suc k) (suc k))
        ∙ ap (λ (x : ℕ). x / 2 ^ suc k) (sym (mul_assoc n (2 ^ (l - suc k)) (2 ^ suc k)))
        ∙ mul-div_cancel (n * 2 ^ (l - suc k)) (pow_pos (suc k))

-- ---- the fields of the pattern of a number of v units
abbrev pub pattern_of : ℕ → ℕ
pattern_of v = (size v - 53) * 4503599627370496 + v / 2 ^ (size v - 53)

pub bits_of : (n : ℕ) (e : ℤ) → to_bits binary64 (fin false n e) ≡ pattern_of (n * up e * 2 ^ 1074 / down e)
unfolding to_bits
bits_of n e = ap (λ (x : ℕ). x + n * up e * 2 ^ 1074 / down e / 2 ^ (size (n * up e * 2 ^ 1074 / down e) - 53)) (zero-add ((size (n * up e * 2 ^ 1074 / down e) - 53) * 4503599627370496))

-- few digits: the pattern is the number
pub few : (v : ℕ) → size v ≤ 52 → (pattern_of v / 4503599627370496 ≡ 0) × (pattern_of v % 4503599627370496 ≡ v)
few v h =
    let z : size v - 53 ≡ 0 = omega arith in
    let l : v < 4503599627370496 = lt_of_lt_of_le (size-lt v) (pow_mono h) in
    let p : pattern_of v ≡ v = ap (λ (x : ℕ). x * 4503599627370496 + v / 2 ^ x) z ∙ ap (λ (x : ℕ). 0 + x) (div-one v) ∙ zero-add v in
    rw p (omega arith, omega arith)

-- the leading 53 digits of a number that has as many
pub leading : (v : ℕ) → 53 ≤ size v → (4503599627370496 ≤ v / 2 ^ (size v - 53)) × (v / 2 ^ (size v - 53) < 9007199254740992)
leading v h =
    let k = size v - 53 in (
      (le-div_iff_mul-le (pow_pos k)).1 (le_trans (le_of_eq (sym (pow-add 2 52 k))) (size_reaches v (52 + k) (let q : 52 + (size v - 53) < size v = omega arith in q))),
      (div-lt_iff_lt-mul (pow_pos k)).1 (lt_of_lt_of_le (size-lt v) (le_of_eq (ap (λ (x : ℕ). 2 ^ x) (let q : size v ≡ 53 + (size v - 53) = omega arith in q) ∙ pow-add 2 53 k))),
    )

pub many : (v : ℕ) → 53 ≤ size v → (pattern_of v / 4503599627370496 ≡ size v - 52) × (pattern_of v % 4503599627370496 + 4503599627370496 ≡ v / 2 ^ (size v - 53))
many v h = go (size v - 53) (v / 2 ^ (size v - 53)) (leading v h) (let q : size v - 52 ≡ suc (size v - 53) = omega arith in q)
  where
    go : (k q : ℕ) → (4503599627370496 ≤ q) × (q < 9007199254740992) → size v - 52 ≡ suc k → ((k * 4503599627370496 + q) / 4503599627370496 ≡ size v - 52) × ((k * 4503599627370496 + q) % 4503599627370496 + 4503599627370496 ≡ q)
    go k q b e = (omega (arith, b.0, b.1), omega (arith, b.0, b.1))

-- which of the two it is, by the field
pub by_field : (v : ℕ) → (pattern_of v / 4503599627370496 ≡ 0) → size v ≤ 52
by_field v h = le_of_suc-le-suc (lt_of_not-le (λ (g : 53 ≤ size v). no (many v g).0 g))
  where
    no : pattern_of v / 4503599627370496 ≡ size v - 52 → 53 ≤ size v → ⊥
    no e g = omega arith

pub by_field_not : (v : ℕ) → (pattern_of v / 4503599627370496 ≡ 0 → ⊥) → 53 ≤ size v
by_field_not v h = lt_of_not-le (λ (g : size v ≤ 52). h (few v g).0)

-- ---- few digits brought to full width by the count of leading zeros
pub zeros_are : (v : ℕ) → 0 < v → size v ≤ 52 → count_leading_zeros 64 v ≡ 64 - size v
zeros_are v p h =
    let l : v < 2 ^ 64 = lt_of_lt_of_le (size-lt v) (pow_mono {i = size v} {j = 64} (omega arith)) in
    let t = leading_top 64 v p l in
    let s : size v ≡ suc t.0 = size_is v t.0 t.2 t.3 in
    go t.0 t.1 s
  where
    go : (j : ℕ) → count_leading_zeros 64 v + suc j ≡ 64 → size v ≡ suc j → count_leading_zeros 64 v ≡ 64 - size v
    go j a b = omega arith

raised : (v d : ℕ) → d ≤ 52 → v * 2 ^ (53 - d) * 2 ^ d ≡ v * 2 ^ 53
raised v d h = mul_assoc v (2 ^ (53 - d)) (2 ^ d) ∙ ap (λ (x : ℕ). v * x) (sym (pow-add 2 (53 - d) d) ∙ ap (λ (x : ℕ). 2 ^ x) (let q : 53 - d + d ≡ 53 = omega arith in q))

raised_below : (v d : ℕ) → d ≤ 52 → v < 2 ^ d → v * 2 ^ (53 - d) < 2 ^ 53
raised_below v d h l = lt_of_lt_of_le (mul-lt-mul_of_pos_right l (pow_pos (53 - d))) (le_of_eq (sym (pow-add 2 d (53 - d)) ∙ ap (λ (x : ℕ). 2 ^ x) (let q : d + (53 - d) ≡ 53 = omega arith in q)))

raised_from : (v d : ℕ) → 0 < d → d ≤ 52 → 2 ^ (d - 1) ≤ v → 2 ^ 52 ≤ v * 2 ^ (53 - d)
raised_from v d p h l = le_trans (le_of_eq (ap (λ (x : ℕ). 2 ^ x) (let q : 52 ≡ d - 1 + (53 - d) = omega arith in q) ∙ pow-add 2 (d - 1) (53 - d))) (mul-le-mul_right (2 ^ (53 - d)) l)

-- ---- the two ways to full width
module _ (n : ℕ) (e : ℤ) (pn : 0 < n) (fit : n < 2 ^ 53) (lo : down e ≤ 2 ^ 1074) where
  abbrev units : ℕ
  units = n * up e * 2 ^ 1074 / down e

  units_pos : 0 < units
  units_pos = rw (units_is n e lo) (mul-pos pn (pow_pos (lift e)))

  pub units_size : size units ≡ size n + lift e
  units_size = ap size (units_is n e lo) ∙ size_shift n (lift e) pn

  -- what is dropped below the leading 53 digits is zero
  divides : (k : ℕ) → k ≤ lift e → units / 2 ^ k * 2 ^ k ≡ units
  divides k h =
      let w : units ≡ n * 2 ^ (lift e - k) * 2 ^ k = units_is n e lo ∙ ap (λ (x : ℕ). n * x) (ap (λ (x : ℕ). 2 ^ x) (let q : lift e ≡ lift e - k + k = omega arith in q) ∙ pow-add 2 (lift e - k) k) ∙ sym (mul_assoc n (2 ^ (lift e - k)) (2 ^ k)) in
      ap (λ (x : ℕ). x / 2 ^ k * 2 ^ k) w ∙ ap (λ (x : ℕ). x * 2 ^ k) (mul-div_cancel (n * 2 ^ (lift e - k)) (pow_pos k)) ∙ sym w

  pub wide_few : size units ≤ 52 → Widened (fin false n e) (units * 2 ^ (count_leading_zeros 64 units - 11) % 18446744073709551616) (64 - count_leading_zeros 64 units)
  wide_few h =
      let d = size units in
      let pd : 0 < d = size_pos units units_pos in
      let z : count_leading_zeros 64 units ≡ 64 - d = zeros_are units units_pos h in
      let s : count_leading_zeros 64 units - 11 ≡ 53 - d = omega arith in
      let t : 64 - count_leading_zeros 64 units ≡ d = omega arith in
      let b : units * 2 ^ (53 - d) < 2 ^ 53 = raised_below units d h (size-lt units) in
      let m : units * 2 ^ (53 - d) % 18446744073709551616 ≡ units * 2 ^ (53 - d) = mod-eq_of_lt (omega arith) in
      rw (s, t, m)
      (record {
        from = raised_from units d pd h (size_from units units_pos);
        below = b;
        count = refl;
        same = raised units d h;
      })

  pub wide_many : 53 ≤ size units → Widened (fin false n e) (units / 2 ^ (size units - 53)) (size units)
  wide_many h =
      let k = size units - 53 in
      let kl : k ≤ lift e = omega (arith, units_size, size-le n 53 fit) in
      record {
        from = (leading units h).0;
        below = (leading units h).1;
        count = refl;
        same =
            ap (λ (x : ℕ). units / 2 ^ k * x) (ap (λ (x : ℕ). 2 ^ x) (let q : size units ≡ size units - 53 + 53 = omega arith in q) ∙ pow-add 2 k 53)
            ∙ sym (mul_assoc (units / 2 ^ k) (2 ^ k) (2 ^ 53))
            ∙ ap (λ (x : ℕ). x * 2 ^ 53) (divides k kl);
      }

-- ---- of a float above zero, by its pattern
abbrev H : ℕ
H = 4503599627370496

pub widen_few : (x : Float) → T (fits binary64 x) → T (positive x) → to_bits binary64 x / H ≡ 0
    → (11 ≤ count_leading_zeros 64 (to_bits binary64 x % H)) × Widened x (to_bits binary64 x % H * 2 ^ (count_leading_zeros 64 (to_bits binary64 x % H) - 11) % 18446744073709551616) (64 - count_leading_zeros 64 (to_bits binary64 x % H))
widen_few nan f p h = absurd p
widen_few (inf s) f p h = absurd p
widen_few (fin true n e) f p h = absurd p
widen_few (fin false n e) f p h =
    let v = n * up e * 2 ^ 1074 / down e in
    let pn : 0 < n = ltb→lt 0 n p in
    let fit = fits_digits false n e f in
    let lo = fits_low false n e f in
    let s : size v ≤ 52 = by_field v (rw (bits_of n e) at h) in
    rw (bits_of n e, (few v s).1) (omega (arith, zeros_are v (units_pos n e pn fit lo) s), wide_few n e pn fit lo s)

pub widen_many : (x : Float) → T (fits binary64 x) → T (positive x) → (to_bits binary64 x / H ≡ 0 → ⊥) → Widened x (to_bits binary64 x % H + H) (to_bits binary64 x / H + 52)
widen_many nan f p h = absurd p
widen_many (inf s) f p h = absurd p
widen_many (fin true n e) f p h = absurd p
widen_many (fin false n e) f p h =
    let v = n * up e * 2 ^ 1074 / down e in
    let pn : 0 < n = ltb→lt 0 n p in
    let fit = fits_digits false n e f in
    let lo = fits_low false n e f in
    let s : 53 ≤ size v = by_field_not v (rw (bits_of n e) at h) in
    let d : size v - 52 + 52 ≡ size v = omega arith in
    rw (bits_of n e, (many v s).1, (many v s).0, d) (wide_many n e pn fit lo s)

pub positive_no_nan : (x : Float) → T (positive x) → T (not (is_nan x))
unfolding is_nan
positive_no_nan nan p = absurd p
positive_no_nan (inf s) p = tt
positive_no_nan (fin s n e) p = tt
