-- The digits that `pack` keeps, a tie to the even number, and the bit pattern of what lib.Ieee's `units` gives (`rounded`, `pattern_is`). Assumes nothing.
use mathlib.Core.Path.{◌≡◌, refl, sym, ap, ap₂, ◌∙◌, subst}
use mathlib.Core.Logic.{◌⊎◌, inl, inr}
use mathlib.Core.Bool.{Bool, true, false, not, cond}
use Prim.Native.Nat.{ℕ, zero, suc, ◌+◌, ◌-◌, ◌*◌, ◌/◌, ◌%◌, ◌^◌, ◌≤◌, ◌<◌, max, compare, min, zero-le}
use native.Mathlib.Nat.{le_refl, le_trans, le_of_eq, lt_of_lt_of_le, lt_of_le_of_lt, lt_irrefl, not-le_of_lt, eq-or-lt_of_le, zero-lt-suc, zero-mul, add_comm, add_assoc, zero-add, mul-one, one-mul, mul_assoc, mul-le-mul_left, mul-le-mul_right, mul-lt-mul_of_pos_right, lt_of_mul-lt-mul_right, le_of_mul-le-mul_right, mod-eq_of_lt, div-one, mul-div_cancel, div-lt_iff_lt-mul, le-div_iff_mul-le, pow-succ', le_of_suc-le-suc, le_antisymm}
use native.Mathlib.Omega.{arith}
use native.Mathlib.Numerals.{sub-one}
use lib.Dec.{T, lit<, lit≤, ltb, ltb→lt, nltb→le, lt→ltb}
use lib.Arith.{lt-one}
use lib.Pow.{pow-add, pow_pos, pow_mono, pow-lt, shl_lt, shl-shr, shr-shr}
use lib.Count.{count_leading_zeros, leading_top}
use lib.Ieee.{Float, nan, inf, fin, Format, binary64, prec, low, down, size, nearest, odd, units, round, is_nan, fits, nan_bits, hid, top, to_bits, of_bits, emax}
use lib.Ieee.Fits.{down_pos, odd-fits, nearest-le, inf-fits}
use lib.Ieee.Bits.{of_bits-to_bits, nan_bits_is}
use lib.Ieee.Exact.{HasValue, units_val}
use lib.Ieee.Nearest.{closest, closest_same, nearest-ge}
use Rattle.ieee_words.specs.Words.{jammed, Width}
use Rattle.ieee_significands.proofs.Rounding.{Drops, dropped, round_int, round_close, jam_close, closest_close, pow_lt_back, size_gt, compare_lt, compare_gt, order}

-- ---- a quarter, to the nearest

pub quarter : (r : ℕ) → (r + 1 + r / 4 % 2) / 4 ≡ closest r 4
quarter r = go (r % 4) refl
  where
    go : (m : ℕ) → r % 4 ≡ m → (r + 1 + r / 4 % 2) / 4 ≡ nearest (r / 4) (compare (m * 2) 4)
    go zero e = omega arith
    go (suc zero) e = omega arith
    go (suc (suc zero)) e = omega arith
    go (suc (suc (suc zero))) e = omega arith
    go (suc (suc (suc (suc m)))) e = absurd (big e)
      where
        big : r % 4 ≡ suc (suc (suc (suc m))) → ⊥
        big e = omega arith

-- the same of a 2 ^ 10th, by how the rest compares with a half
last_ten : (r : ℕ) → (r + 511 + r / 1024 % 2) / 1024 ≡ closest r 1024
last_ten r = elim (order (r % 1024) 512) [
  | inl h ↦ below r h ∙ ap (nearest (r / 1024)) (sym (compare_lt (r % 1024 * 2) 1024 (omega arith)))
  | inr (inl h) ↦ above r h ∙ ap (nearest (r / 1024)) (sym (compare_gt (r % 1024 * 2) 1024 (omega arith)))
  | inr (inr h) ↦ half r h ∙ ap (λ (x : ℕ). nearest (r / 1024) (compare (x * 2) 1024)) (sym h)
]
  where
    below : (r : ℕ) → r % 1024 < 512 → (r + 511 + r / 1024 % 2) / 1024 ≡ r / 1024
    below r h = omega arith

    half : (r : ℕ) → r % 1024 ≡ 512 → (r + 511 + r / 1024 % 2) / 1024 ≡ r / 1024 + r / 1024 % 2
    half r h = omega arith

    above : (r : ℕ) → 512 < r % 1024 → (r + 511 + r / 1024 % 2) / 1024 ≡ suc (r / 1024)
    above r h = omega arith

-- ---- the digits that are kept

times_four : (j u : ℕ) → j * (2 * (2 * u)) ≡ j * u * 4
times_four j u = omega arith

times_two : (m u w : ℕ) → 2 * m * u * w ≡ m * u * (2 * w)
times_two m u w = omega arith

pub kept_right : (m e t : ℕ) → e < t → closest (jammed m (t - 1 - e)) 4 ≡ closest (m * 2 ^ e) (2 ^ t)
kept_right m e t h =
    let d = t - 1 - e in
    let j = jammed m d in
    let w = e + d in
    closest_same j 4 (j * 2 ^ w) (2 ^ suc (suc w)) (zero-lt-suc 3) (pow_pos (suc (suc w))) (ap (λ (x : ℕ). j * x) (pow-succ' 2 (suc w) ∙ ap (λ (x : ℕ). 2 * x) (pow-succ' 2 w)) ∙ times_four j (2 ^ w))
    ∙ sym (closest_close (suc w) (suc (suc w)) (m / 2 ^ d) (2 * m * 2 ^ e) (j * 2 ^ w) (le_refl (suc (suc w))) (jam_close m d e))
    ∙ closest_same (2 * m * 2 ^ e) (2 ^ suc (suc w)) (m * 2 ^ e) (2 ^ suc w) (pow_pos (suc (suc w))) (pow_pos (suc w))
    (times_two m (2 ^ e) (2 ^ suc w) ∙ ap (λ (x : ℕ). m * 2 ^ e * x) (sym (pow-succ' 2 (suc w))))
    ∙ ap (λ (x : ℕ). closest (m * 2 ^ e) (2 ^ x)) (join e t h)
  where
    join : (e t : ℕ) → e < t → suc (e + (t - 1 - e)) ≡ t
    join e t h = omega arith

pub kept_small : (m e t : ℕ) → e < t → m * 2 ^ e < 2 ^ (t + 53) → jammed m (t - 1 - e) < 2 ^ 55
kept_small m e t h l =
    let d = t - 1 - e in
    let g : m < 2 ^ (54 + d) = lt_of_mul-lt-mul_right (2 ^ e) (subst (λ (x : ℕ). m * 2 ^ e < x) (ap (λ (x : ℕ). 2 ^ x) (join e t h) ∙ pow-add 2 (54 + d) e) l) in
    let k : m / 2 ^ d < 2 ^ 54 = (div-lt_iff_lt-mul (pow_pos d)).1 (subst (λ (x : ℕ). m < x) (pow-add 2 54 d) g) in
    go (m / 2 ^ d) (m % 2 ^ d) k
  where
    join : (e t : ℕ) → e < t → t + 53 ≡ 54 + (t - 1 - e) + e
    join e t h = omega arith

    go : (q r : ℕ) → q < 2 ^ 54 → 2 * q + min r 1 < 2 ^ 55
    go q r h = omega arith

-- v * 2 ^ exp has no digit below the last that is kept
module _ (v e t : ℕ) (P : 0 < v) (h : t ≤ e + 1) (l : v * 2 ^ e < 2 ^ (t + 53)) where
  abbrev up_by : ℕ
  up_by = e + 2 - t

  scaled : v * 2 ^ up_by * 2 ^ t ≡ v * 2 ^ e * 4
  scaled =
      mul_assoc (v) (2 ^ up_by) (2 ^ t)
      ∙ ap (λ (x : ℕ). v * x) (sym (pow-add 2 up_by t) ∙ ap (λ (x : ℕ). 2 ^ x) (join e t h) ∙ pow-add 2 e 2)
      ∙ sym (mul_assoc (v) (2 ^ e) 4)
    where
      join : (e t : ℕ) → t ≤ e + 1 → e + 2 - t + t ≡ e + 2
      join e t h = omega arith

  small : v * 2 ^ up_by < 2 ^ 55
  small =
      lt_of_mul-lt-mul_right (2 ^ t)
      (lt_of_le_of_lt (le_of_eq scaled)
      (lt_of_lt_of_le (mul-lt-mul_of_pos_right l (zero-lt-suc 3))
      (le_of_eq (sym (pow-add 2 (t + 53) 2) ∙ ap (λ (x : ℕ). 2 ^ x) (swap t) ∙ pow-add 2 55 t))))
    where
      swap : (t : ℕ) → t + 53 + 2 ≡ 55 + t
      swap t = omega arith

  pub shift_small : up_by < 64
  shift_small = lt_of_lt_of_le (pow_lt_back up_by 55 (lt_of_le_of_lt (le_trans (le_of_eq (sym (one-mul (2 ^ up_by)))) (mul-le-mul_right (2 ^ up_by) P)) small)) (lit≤ tt)

  pub small_enough : v < 2 ^ 64
  small_enough = lt_of_lt_of_le (lt_of_le_of_lt (le_trans (le_of_eq (sym (mul-one v))) (mul-le-mul_left v (pow_pos up_by))) small) (lit≤ tt)

  exact : v * 2 ^ up_by % 2 ^ 64 ≡ v * 2 ^ up_by
  exact = mod-eq_of_lt (lt_of_lt_of_le small (lit≤ tt))

  pub kept_left : (v * 2 ^ up_by % 2 ^ 64 < 2 ^ 55) × (closest (v * 2 ^ up_by % 2 ^ 64) 4 ≡ closest (v * 2 ^ e) (2 ^ t))
  kept_left = (
    subst (λ (x : ℕ). x < 2 ^ 55) (sym exact) small,
    ap (λ (x : ℕ). closest x 4) exact ∙ closest_same (v * 2 ^ up_by) 4 (v * 2 ^ e) (2 ^ t) (zero-lt-suc 3) (pow_pos t) scaled,
  )

-- ---- the bit pattern of a finite value, by its size in units of the smallest value

bits_of_value : (f : Format) (x : Float) (s : Bool) (a : ℕ) → HasValue x s a (2 ^ low f) → to_bits f x ≡ cond s (top f) 0 + (size a - prec f) * hid f + a / 2 ^ (size a - prec f)
unfolding to_bits
bits_of_value f nan s a v = absurd v
bits_of_value f (inf t) s a v = absurd v
bits_of_value f (fin t m e) s a v =
    ap₂ (λ (b : Bool) (n : ℕ). cond b (top f) 0 + (size n - prec f) * hid f + n / 2 ^ (size n - prec f)) v.0
    (ap (λ (x : ℕ). x / down e) v.1 ∙ mul-div_cancel a (down_pos e))

-- ---- what `assemble` and `magnitude` are handed
abbrev pub Whole : ℕ → ℕ → Type 0
Whole q k = (q ≤ 2 ^ 53) × (0 < k → 2 ^ 52 ≤ q)

size_is : (a k : ℕ) → Drops binary64 0 a k → size a - 53 ≡ k
size_is a k h = ap (λ (x : ℕ). size x - 53) (sym (div-one a)) ∙ dropped binary64 0 a k h ∙ sub_zero k
  where
    sub_zero : (k : ℕ) → k - 0 ≡ k
    sub_zero k = omega arith

-- the exponent's field and the digits of q * 2 ^ k
fields : (q k : ℕ) → Whole q k → (size (q * 2 ^ k) - 53) * 2 ^ 52 + q * 2 ^ k / 2 ^ (size (q * 2 ^ k) - 53) ≡ k * 2 ^ 52 + q
fields q k w = go (eq-or-lt_of_le w.0)
  where
    at : (a k q : ℕ) → size a - 53 ≡ k → a ≡ q * 2 ^ k → (size a - 53) * 2 ^ 52 + a / 2 ^ (size a - 53) ≡ k * 2 ^ 52 + q
    at a k q z e = ap (λ (x : ℕ). x * 2 ^ 52 + a / 2 ^ x) z ∙ ap (λ (x : ℕ). k * 2 ^ 52 + x) (ap (λ (x : ℕ). x / 2 ^ k) e ∙ shl-shr q k)

    carried : (k : ℕ) → (k + 1) * 2 ^ 52 + 2 ^ 52 ≡ k * 2 ^ 52 + 2 ^ 53
    carried k = omega arith

    up_one : (k : ℕ) → 2 ^ 53 * 2 ^ k ≡ 2 ^ 52 * 2 ^ (k + 1)
    up_one k = sym (pow-add 2 53 k) ∙ ap (λ (x : ℕ). 2 ^ x) (swap k) ∙ pow-add 2 52 (k + 1)
      where
        swap : (k : ℕ) → 53 + k ≡ 52 + (k + 1)
        swap k = omega arith

    next : (k : ℕ) → 53 + k < k + 1 + 53
    next k = omega arith

    go : (q ≡ 2 ^ 53) ⊎ (q < 2 ^ 53) → (size (q * 2 ^ k) - 53) * 2 ^ 52 + q * 2 ^ k / 2 ^ (size (q * 2 ^ k) - 53) ≡ k * 2 ^ 52 + q
    go (inl e) =
        let a = q * 2 ^ k in
        let b : a ≡ 2 ^ 52 * 2 ^ (k + 1) = ap (λ (x : ℕ). x * 2 ^ k) e ∙ up_one k in
        let c : a ≡ 2 ^ (53 + k) = ap (λ (x : ℕ). x * 2 ^ k) e ∙ sym (pow-add 2 53 k) in
        at a (k + 1) (2 ^ 52)
        (size_is a (k + 1) (record {
          low = omega arith;
          under = lt_of_le_of_lt (le_of_eq c) (pow-lt (next k));
          over = λ g. le_of_eq (ap (λ (x : ℕ). 2 ^ x) (add_comm (k + 1) 52) ∙ pow-add 2 52 (k + 1) ∙ sym b);
        })) b
        ∙ carried k ∙ ap (λ (x : ℕ). k * 2 ^ 52 + x) (sym e)
    go (inr l) =
        at (q * 2 ^ k) k q
        (size_is (q * 2 ^ k) k (record {
          low = omega arith;
          under = subst (λ (x : ℕ). q * 2 ^ k < 2 ^ x) (add_comm 53 k) (shl_lt 53 k l);
          over = λ g. le_trans (le_of_eq (ap (λ (x : ℕ). 2 ^ x) (add_comm k 52) ∙ pow-add 2 52 k)) (mul-le-mul_right (2 ^ k) (w.1 g));
        })) refl

-- the pattern that `magnitude` makes
abbrev packed : ℕ → ℕ → ℕ
packed q k = cond (ltb k 2046) (k * 2 ^ 52 + q) 0x7ff0_0000_0000_0000

packed_low : (q k : ℕ) → k < 2046 → packed q k ≡ k * 2 ^ 52 + q
packed_low q k h = go (ltb k 2046) (lt→ltb k 2046 h)
  where
    go : (b : Bool) → T b → cond b (k * 2 ^ 52 + q) 0x7ff0_0000_0000_0000 ≡ k * 2 ^ 52 + q
    go true t = refl
    go false t = absurd t

packed_high : (q k : ℕ) → 2046 ≤ k → packed q k ≡ 0x7ff0_0000_0000_0000
packed_high q k h = go (ltb k 2046) (ltb→lt k 2046)
  where
    go : (b : Bool) → (T b → k < 2046) → cond b (k * 2 ^ 52 + q) 0x7ff0_0000_0000_0000 ≡ 0x7ff0_0000_0000_0000
    go true t = absurd (not-le_of_lt (t tt) h)
    go false t = refl

abbrev pub limit : ℕ
limit = 2 ^ (52 + 2046)

finite_k : (q k : ℕ) → Whole q k → q * 2 ^ k < limit → k < 2046
finite_k q k w h = go (ltb k 2046) (ltb→lt k 2046) (nltb→le k 2046)
  where
    go : (b : Bool) → (T b → k < 2046) → (T (not b) → 2046 ≤ k) → k < 2046
    go true f g = f tt
    go false f g =
        absurd (not-le_of_lt h
        (le_trans (le_of_eq (pow-add 2 52 2046))
        (le_trans (mul-le-mul_right (2 ^ 2046) (w.1 (lt_of_lt_of_le (lit< tt) (g tt)))) (mul-le-mul_left q (pow_mono (g tt))))))

-- what is too large for a finite value has the pattern of an infinity
infinite_packed : (q k : ℕ) → Whole q k → limit ≤ q * 2 ^ k → packed q k ≡ 0x7ff0_0000_0000_0000
infinite_packed q k w h = go (ltb k 2046) (ltb→lt k 2046) (nltb→le k 2046)
  where
    large : k < 2046 → 52 + 2046 ≤ 53 + k
    large l = le_of_pow (52 + 2046) (53 + k) (le_trans h (le_trans (mul-le-mul_right (2 ^ k) w.0) (le_of_eq (sym (pow-add 2 53 k)))))
      where
        le_of_pow : (a b : ℕ) → 2 ^ a ≤ 2 ^ b → a ≤ b
        le_of_pow a b h = le_of_suc-le-suc (pow_lt_back a (suc b) (lt_of_le_of_lt h (pow-lt (le_refl (suc b)))))

    is_last : (k : ℕ) → k < 2046 → 52 + 2046 ≤ 53 + k → k ≡ 2045
    is_last k a b = omega arith

    whole_q : k ≡ 2045 → q ≡ 2 ^ 53
    whole_q e =
        le_antisymm w.0
        (le_of_mul-le-mul_right (le_trans (le_of_eq (sym (pow-add 2 53 2045))) (subst (λ (x : ℕ). limit ≤ q * 2 ^ x) e h)) (pow_pos 2045))

    go : (b : Bool) → (T b → k < 2046) → (T (not b) → 2046 ≤ k) → packed q k ≡ 0x7ff0_0000_0000_0000
    go true f g =
        let e : k ≡ 2045 = is_last k (f tt) (large (f tt)) in
        ap₂ packed (whole_q e) e
    go false f g = packed_high q k (g tt)

-- ---- the bit pattern of what `units` gives

units_inf : (f : Format) (s : Bool) (q k : ℕ) → 2 ^ (low f + suc (emax f)) ≤ q * 2 ^ k → units f s q k ≡ inf s
unfolding units
units_inf f s q k h = go (ltb (q * 2 ^ k) (2 ^ (low f + suc (emax f)))) (ltb→lt (q * 2 ^ k) (2 ^ (low f + suc (emax f))))
  where
    go : (b : Bool) → (T b → q * 2 ^ k < 2 ^ (low f + suc (emax f))) → cond b (odd (suc (prec f)) s q k (low f)) (inf s) ≡ inf s
    go true t = absurd (not-le_of_lt (t tt) h)
    go false t = refl

inf_bits : (s : Bool) → to_bits binary64 (inf s) ≡ cond s (2 ^ 63) 0 + 0x7ff0_0000_0000_0000
unfolding to_bits
inf_bits s = refl

units_bits : (s : Bool) (q k : ℕ) → Whole q k → to_bits binary64 (units binary64 s q k) ≡ cond s (2 ^ 63) 0 + packed q k
units_bits s q k w = go (ltb (q * 2 ^ k) limit) (ltb→lt (q * 2 ^ k) limit) (nltb→le (q * 2 ^ k) limit)
  where
    go : (b : Bool) → (T b → q * 2 ^ k < limit) → (T (not b) → limit ≤ q * 2 ^ k) → to_bits binary64 (units binary64 s q k) ≡ cond s (2 ^ 63) 0 + packed q k
    go true f g =
        bits_of_value binary64 (units binary64 s q k) s (q * 2 ^ k) (units_val binary64 s q k (f tt))
        ∙ add_assoc (cond s (2 ^ 63) 0) ((size (q * 2 ^ k) - 53) * 2 ^ 52) (q * 2 ^ k / 2 ^ (size (q * 2 ^ k) - 53))
        ∙ ap (λ (x : ℕ). cond s (2 ^ 63) 0 + x) (fields q k w ∙ sym (packed_low q k (finite_k q k w (f tt))))
    go false f g =
        ap (to_bits binary64) (units_inf binary64 s q k (g tt)) ∙ inf_bits s
        ∙ ap (λ (x : ℕ). cond s (2 ^ 63) 0 + x) (sym (infinite_packed q k w (g tt)))

units_fit : (s : Bool) (q k : ℕ) → Whole q k → T (fits binary64 (units binary64 s q k))
unfolding units
units_fit s q k w = go (ltb (q * 2 ^ k) limit) (ltb→lt (q * 2 ^ k) limit)
  where
    go : (b : Bool) → (T b → q * 2 ^ k < limit) → T (fits binary64 (cond b (odd 54 s q k 1074) (inf s)))
    go true f = odd-fits binary64 54 s q k (lt_of_le_of_lt w.0 (lit< tt)) w.0 (f tt)
    go false f = inf-fits binary64 s

units_no_nan : (s : Bool) (q k : ℕ) → is_nan (units binary64 s q k) ≡ false
unfolding units odd is_nan
units_no_nan s q k = go (ltb (q * 2 ^ k) limit) q
  where
    go : (b : Bool) (n : ℕ) → is_nan (cond b (odd 54 s n k 1074) (inf s)) ≡ false
    go true zero = refl
    go true (suc n) = refl
    go false n = refl

-- ---- what the proofs of `magnitude` and `assemble` cite

pub magnitude_low : (q k : ℕ) → Whole q k → k < 2046 → k * 2 ^ 52 + q ≡ to_bits binary64 (units binary64 false q k)
magnitude_low q k w h = sym (units_bits false q k w ∙ zero-add (packed q k) ∙ packed_low q k h)

pub magnitude_high : (q k : ℕ) → Whole q k → 2046 ≤ k → 0x7ff0_0000_0000_0000 ≡ to_bits binary64 (units binary64 false q k)
magnitude_high q k w h = sym (units_bits false q k w ∙ zero-add (packed q k) ∙ packed_high q k h)

pub with_sign : (s : Bool) (q k m b : ℕ) → Whole q k → m ≡ to_bits binary64 (units binary64 false q k) → b ≡ cond s (2 ^ 63) 0 → m + b ≡ to_bits binary64 (units binary64 s q k)
with_sign s q k m b w e p =
    ap₂ ◌+◌ (e ∙ units_bits false q k w ∙ zero-add (packed q k)) p ∙ add_comm (packed q k) (cond s (2 ^ 63) 0) ∙ sym (units_bits s q k w)

pub sign_le : (s : Bool) (b : ℕ) → b ≡ cond s (2 ^ 63) 0 → b ≤ 2 ^ 63
sign_le true b e = le_of_eq e
sign_le false b e = le_trans (le_of_eq e) zero-le

pub magnitude_lt : (q k m : ℕ) → Whole q k → m ≡ to_bits binary64 (units binary64 false q k) → m < 2 ^ 63
magnitude_lt q k m w e = subst (λ (x : ℕ). x < 2 ^ 63) (sym (e ∙ units_bits false q k w ∙ zero-add (packed q k))) (go (ltb k 2046) (ltb→lt k 2046))
  where
    go : (b : Bool) → (T b → k < 2046) → cond b (k * 2 ^ 52 + q) 0x7ff0_0000_0000_0000 < 2 ^ 63
    go true f = small k q (f tt) w.0
      where
        small : (k q : ℕ) → k < 2046 → q ≤ 2 ^ 53 → k * 2 ^ 52 + q < 2 ^ 63
        small k q h g = omega arith
    go false f = lit< tt

pub pattern_no_nan : (s : Bool) (q k b : ℕ) → Whole q k → b ≡ to_bits binary64 (units binary64 s q k) → nan_bits binary64 b ≡ false
pattern_no_nan s q k b w e = nan_bits_is binary64 b ∙ ap (λ (x : ℕ). is_nan (of_bits binary64 x)) e ∙ ap is_nan (of_bits-to_bits binary64 (units binary64 s q k) (units_fit s q k w)) ∙ units_no_nan s q k

pub pattern_is : (s : Bool) (q k b : ℕ) → Whole q k → b ≡ to_bits binary64 (units binary64 s q k) → of_bits binary64 b ≡ units binary64 s q k
pattern_is s q k b w e = ap (of_bits binary64) e ∙ of_bits-to_bits binary64 (units binary64 s q k) (units_fit s q k w)

-- ---- what the proof of `round` cites

-- the unit is 2 ^ (1074 + 1203)
pub width_le : (m n k : ℕ) → Width m n → m < 2 ^ k → n ≤ k
width_le m n k w h = go n w
  where
    go : (n : ℕ) → Width m n → n ≤ k
    go zero w = zero-le
    go (suc n) w = pow_lt_back n k (lt_of_le_of_lt (subst (λ (x : ℕ). 2 ^ x ≤ m) (sub-one (suc n)) (w.over (zero-lt-suc n))) h)

pub not_zero : (m n : ℕ) → Width m n → (n ≡ 0 → ⊥) → 0 < m
not_zero m n w z = lt_of_lt_of_le (pow_pos (n - 1)) (w.over (pos n z))
  where
    pos : (n : ℕ) → (n ≡ 0 → ⊥) → 0 < n
    pos n z = omega arith

pub drops : (m n e : ℕ) → Width m n → (n ≡ 0 → ⊥) → Drops binary64 1203 (m * 2 ^ e) (max (n + e - 53) 1203)
drops m n e w z =
    let P : 0 < n = pos n z in
    record {
      low = at_least (n + e - 53);
      under = lt_of_lt_of_le (shl_lt n e w.under) (pow_mono (reach (n + e)));
      over = λ g. le_trans (pow_mono (exact n e P g)) (le_trans (le_of_eq (pow-add 2 (n - 1) e)) (mul-le-mul_right (2 ^ e) (w.over P)));
    }
  where
    pos : (n : ℕ) → (n ≡ 0 → ⊥) → 0 < n
    pos n z = omega arith

    at_least : (a : ℕ) → 1203 ≤ max a 1203
    at_least a = omega arith

    reach : (a : ℕ) → a ≤ max (a - 53) 1203 + 53
    reach a = omega arith

    exact : (n e : ℕ) → 0 < n → 1203 < max (n + e - 53) 1203 → max (n + e - 53) 1203 + 52 ≤ n - 1 + e
    exact n e P g = omega arith

pub whole : (a t : ℕ) → Drops binary64 1203 a t → Whole (closest a (2 ^ t)) (t - 1203)
whole a t h = (
  le_trans (nearest-le (a / 2 ^ t) (compare (a % 2 ^ t * 2) (2 ^ t))) ((div-lt_iff_lt-mul (pow_pos t)).1 (subst (λ (x : ℕ). a < x) (ap (λ (x : ℕ). 2 ^ x) (add_comm t 53) ∙ pow-add 2 53 t) h.under)),
  λ g.
      le_trans ((le-div_iff_mul-le (pow_pos t)).1 (le_trans (le_of_eq (sym (pow-add 2 52 t) ∙ ap (λ (x : ℕ). 2 ^ x) (add_comm 52 t))) (h.over (above t g))))
      (nearest-ge (a / 2 ^ t) (compare (a % 2 ^ t * 2) (2 ^ t))),
)
  where
    above : (t : ℕ) → 0 < t - 1203 → 1203 < t
    above t g = omega arith

pub rounded : (s : Bool) (a t q : ℕ) → Drops binary64 1203 a t → q ≡ closest a (2 ^ t) → units binary64 s q (t - 1203) ≡ round binary64 s a (2 ^ 2277)
rounded s a t q h e = ap (λ (x : ℕ). units binary64 s x (t - 1203)) e ∙ sym (round_int binary64 s 1203 a t h)

pub rounded_zero : (s : Bool) (m n e : ℕ) → Width m n → n ≡ 0 → units binary64 s 0 0 ≡ round binary64 s (m * 2 ^ e) (2 ^ 2277)
rounded_zero s m n e w z =
    let k : m * 2 ^ e ≡ 0 = ap (λ (x : ℕ). x * 2 ^ e) (lt-one (subst (λ (x : ℕ). m < 2 ^ x) z w.under)) ∙ zero-mul (2 ^ e) in
    rounded s 0 1203 0 (record { low = le_refl 1203; under = pow_pos (1203 + 53); over = λ g. absurd (lt_irrefl 1203 g) }) refl
    ∙ ap (λ (x : ℕ). round binary64 s x (2 ^ 2277)) (sym k)

-- ---- what the proofs of `full`, `raised` and `round` cite

-- a number of 63 digits, of which ten are dropped
module _ (m e : ℕ) (over : 2 ^ 62 ≤ m) (under : m < 2 ^ 63) (h : 1193 ≤ e) where
  full_drops : Drops binary64 1203 (m * 2 ^ e) (e + 10)
  full_drops = record {
    low = low e h;
    under = lt_of_lt_of_le (shl_lt 63 e under) (le_of_eq (ap (λ (x : ℕ). 2 ^ x) (top e)));
    over = λ g. le_trans (le_of_eq (ap (λ (x : ℕ). 2 ^ x) (sym (top' e)) ∙ pow-add 2 62 e)) (mul-le-mul_right (2 ^ e) over);
  }
    where
      low : (e : ℕ) → 1193 ≤ e → 1203 ≤ e + 10
      low e h = omega arith

      top : (e : ℕ) → 63 + e ≡ e + 10 + 53
      top e = omega arith

      top' : (e : ℕ) → 62 + e ≡ e + 10 + 52
      top' e = omega arith

  full_closest : (m + 511 + m / 1024 % 2) / 1024 ≡ closest (m * 2 ^ e) (2 ^ (e + 10))
  full_closest =
      last_ten m
      ∙ closest_same m 1024 (m * 2 ^ e) (2 ^ (e + 10)) (lit< tt) (pow_pos (e + 10)) (ap (λ (x : ℕ). m * x) (pow-add 2 e 10) ∙ sym (mul_assoc m (2 ^ e) 1024))

  full_place : e + 10 - 1203 ≡ e - 1193
  full_place = go e
    where
      go : (e : ℕ) → e + 10 - 1203 ≡ e - 1193
      go e = omega arith

  pub full_whole : Whole ((m + 511 + m / 1024 % 2) / 1024) (e - 1193)
  full_whole = subst (λ (k : ℕ). Whole ((m + 511 + m / 1024 % 2) / 1024) k) full_place (subst (λ (q : ℕ). Whole q (e + 10 - 1203)) (sym full_closest) (whole (m * 2 ^ e) (e + 10) full_drops))

  pub full_is : (s : Bool) → units binary64 s ((m + 511 + m / 1024 % 2) / 1024) (e - 1193) ≡ round binary64 s (m * 2 ^ e) (2 ^ 2277)
  full_is s = ap (units binary64 s ((m + 511 + m / 1024 % 2) / 1024)) (sym full_place) ∙ rounded s (m * 2 ^ e) (e + 10) ((m + 511 + m / 1024 % 2) / 1024) full_drops full_closest

-- m is brought to 63 digits, by the count of leading zeros of an n with as many digits as m
module _ (n m e : ℕ) (P : 0 < n) (under : n < 2 ^ 63) (S : (j : ℕ) → 2 ^ j ≤ n → n < 2 ^ suc j → (2 ^ j ≤ m) × (m < 2 ^ suc j)) (h : 1255 ≤ e) where
  abbrev up : ℕ
  up = count_leading_zeros 64 n - 1

  -- j is the place of the leading digit
  at : (j : ℕ) × (count_leading_zeros 64 n + suc j ≡ 64) × (2 ^ j ≤ n) × (n < 2 ^ suc j)
  at = leading_top 64 n P (lt_of_lt_of_le under (lit≤ tt))

  place : at.0 < 63
  place = pow_lt_back at.0 63 (lt_of_le_of_lt at.2 under)

  up_is : up + at.0 ≡ 62
  up_is = go (count_leading_zeros 64 n) at.0 at.1 place
    where
      go : (l j : ℕ) → l + suc j ≡ 64 → j < 63 → l - 1 + j ≡ 62
      go l j e h = omega arith

  pub zeros_pos : 1 ≤ count_leading_zeros 64 n
  zeros_pos = go (count_leading_zeros 64 n) at.0 at.1 place
    where
      go : (l j : ℕ) → l + suc j ≡ 64 → j < 63 → 1 ≤ l
      go l j e h = omega arith

  pub up_small : up ≤ 62
  up_small = go up at.0 up_is
    where
      go : (u j : ℕ) → u + j ≡ 62 → u ≤ 62
      go u j e = omega arith

  raised_under : m * 2 ^ up < 2 ^ 63
  raised_under = subst (λ (x : ℕ). m * 2 ^ up < 2 ^ x) (go up at.0 up_is) (shl_lt (suc at.0) up (S at.0 at.2 at.3).1)
    where
      go : (u j : ℕ) → u + j ≡ 62 → suc j + u ≡ 63
      go u j e = omega arith

  pub raised_exact : m * 2 ^ up % 2 ^ 64 ≡ m * 2 ^ up
  raised_exact = mod-eq_of_lt (lt_of_lt_of_le raised_under (lit≤ tt))

  pub raised_full : (2 ^ 62 ≤ m * 2 ^ up % 2 ^ 64) × (m * 2 ^ up % 2 ^ 64 < 2 ^ 63) × (1193 ≤ e - up)
  raised_full = (
    le_trans (le_trans (le_of_eq (ap (λ (x : ℕ). 2 ^ x) (sym up_is ∙ add_comm up at.0) ∙ pow-add 2 at.0 up)) (mul-le-mul_right (2 ^ up) (S at.0 at.2 at.3).0)) (le_of_eq (sym raised_exact)),
    lt_of_le_of_lt (le_of_eq raised_exact) raised_under,
    go up e up_small h,
  )
    where
      go : (u e : ℕ) → u ≤ 62 → 1255 ≤ e → 1193 ≤ e - u
      go u e k h = omega arith

  pub raised_value : m * 2 ^ up % 2 ^ 64 * 2 ^ (e - up) ≡ m * 2 ^ e
  raised_value =
      ap (λ (x : ℕ). x * 2 ^ (e - up)) raised_exact ∙ mul_assoc m (2 ^ up) (2 ^ (e - up))
      ∙ ap (λ (x : ℕ). m * x) (sym (pow-add 2 up (e - up)) ∙ ap (λ (x : ℕ). 2 ^ x) (join up e up_small h))
    where
      join : (u e : ℕ) → u ≤ 62 → 1255 ≤ e → u + (e - u) ≡ e
      join u e k h = omega arith

pub upper_under : (v hi : ℕ) → hi ≡ v / 2 ^ 64 → v < 2 ^ 127 → hi < 2 ^ 63
upper_under v hi e h = lt_of_le_of_lt (le_of_eq e) ((div-lt_iff_lt-mul (pow_pos 64)).1 (lt_of_lt_of_le h (le_of_eq (pow-add 2 63 64))))

-- a number with 55 digits or more in its upper word: r is that word, with its last digit sticky
module _ (v hi e r : ℕ) (H : hi ≡ v / 2 ^ 64) (over : 2 ^ 54 ≤ hi) (h : 1203 ≤ e) (j65 : r ≡ jammed v 65) where
  half : v / 2 ^ 65 ≡ hi / 2
  half = sym (shr-shr v 64 1) ∙ ap (λ (x : ℕ). x / 2) (sym H)

  -- r has as many digits as the word
  pub word_digits : (j : ℕ) → 2 ^ j ≤ hi → hi < 2 ^ suc j → (2 ^ j ≤ r) × (r < 2 ^ suc j)
  word_digits j k l = (
    le_trans (first j k l) (le_of_eq (sym is)),
    lt_of_le_of_lt (le_of_eq is) (lt_of_lt_of_le (second (2 ^ j) hi (v % 2 ^ 65) (lt_of_lt_of_le l (le_of_eq (pow-succ' 2 j)))) (le_of_eq (sym (pow-succ' 2 j)))),
  )
    where
      is : r ≡ 2 * (hi / 2) + min (v % 2 ^ 65) 1
      is = j65 ∙ ap (λ (x : ℕ). 2 * x + min (v % 2 ^ 65) 1) half

      lower : (p hi t : ℕ) → 2 * p ≤ hi → 2 * p ≤ 2 * (hi / 2) + min t 1
      lower p hi t h = omega arith

      second : (p hi t : ℕ) → hi < 2 * p → 2 * (hi / 2) + min t 1 < 2 * p
      second p hi t h = omega arith

      first : (j : ℕ) → 2 ^ j ≤ hi → hi < 2 ^ suc j → 2 ^ j ≤ 2 * (hi / 2) + min (v % 2 ^ 65) 1
      first zero k l = absurd (not-le_of_lt l (le_trans (lit≤ tt) over))
      first (suc i) k l = le_trans (le_of_eq (pow-succ' 2 i)) (lower (2 ^ i) hi (v % 2 ^ 65) (le_trans (le_of_eq (sym (pow-succ' 2 i))) k))

  pub word_rounds : (s : Bool) → round binary64 s (r * 2 ^ (e + 64)) (2 ^ 2277) ≡ round binary64 s (v * 2 ^ e) (2 ^ 2277)
  word_rounds s =
      ap₂ (λ (x y : ℕ). round binary64 s (x * 2 ^ y) (2 ^ 2277)) j65 (place e h)
      ∙ sym (round_close binary64 s 1203 (suc (e - 1 + 65)) (v / 2 ^ 65) (2 * v * 2 ^ (e - 1)) (jammed v 65 * 2 ^ (e - 1 + 65)) digits (jam_close v 65 (e - 1)))
      ∙ ap (λ (x : ℕ). round binary64 s x (2 ^ 2277)) (times_pred v (2 ^ (e - 1)) ∙ ap (λ (x : ℕ). v * x) (sym (pow-succ' 2 (e - 1)) ∙ ap (λ (x : ℕ). 2 ^ x) (pred e h)))
    where
      place : (e : ℕ) → 1203 ≤ e → e + 64 ≡ e - 1 + 65
      place e h = omega arith

      pred : (e : ℕ) → 1203 ≤ e → suc (e - 1) ≡ e
      pred e h = omega arith

      times_pred : (m p : ℕ) → 2 * m * p ≡ m * (2 * p)
      times_pred m p = omega arith

      large : (hi : ℕ) → 2 ^ 54 ≤ hi → 2 ^ 53 ≤ hi / 2
      large hi h = omega arith

      digits : 53 < size (v / 2 ^ 65)
      digits = size_gt (v / 2 ^ 65) 53 (le_trans (large hi over) (le_of_eq (sym half)))
