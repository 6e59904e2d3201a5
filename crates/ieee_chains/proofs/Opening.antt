-- A positive number taken apart and put together (`open_is`, `closed_is`), and one fused step on such numbers: its sum at the place of the third operand (`near_step`) or of the product (`far_step`), and the rounding to 53 digits (`settled`). Assumes nothing.
use mathlib.Core.Path.{◌≡◌, refl, sym, ap, ap₂, ◌∙◌, subst}
use mathlib.Core.Logic.{inl, inr}
use mathlib.Core.Bool.{false}
use Prim.Native.Nat.{ℕ, zero, suc, ◌+◌, ◌-◌, ◌*◌, ◌/◌, ◌%◌, ◌^◌, ◌≤◌, ◌<◌, min}
use native.Mathlib.Nat.{le_refl, le_of_suc-le-suc, div-lt_iff_lt-mul, le-div_iff_mul-le, mul-lt-mul_of_pos_right, mul_assoc, le_trans, le_of_eq, lt_of_lt_of_le, lt_of_le_of_lt, mul-pos, mul-le-mul, mul-le-mul_right, div-le_self, le-add_right, suc-mul, pow-succ'}
use native.Mathlib.Omega.{arith}
use lib.Dec.{T, lit<, lit≤}
use lib.Pow.{pow-add, pow_pos, pow_mono, shr-shr, shl-shr}
use lib.Count.{count_leading_zeros, leading_top}
use lib.Ieee.{Float, binary64, size, round, fits, to_bits, of_bits, nan_bits}
use lib.Ieee.Bits.{of_bits-to_bits}
use lib.Ieee.Exact.{HasValue, units_val}
use Rattle.ieee_words.specs.Words.{jammed}
use Rattle.ieee_significands.proofs.Rounding.{Close, round_close, jam_close, size_gt, pow_lt_back}
use Rattle.ieee_significands.proofs.Packing.{Whole, limit, magnitude_low, pattern_no_nan, pattern_is, full_whole, full_is, zeros_pos, raised_full, raised_exact}
use Rattle.ieee.specs.Fused.{fused_of}
use Rattle.ieee_chains.specs.Open.{value_of, field, Digits}
use Rattle.ieee.proofs.Sums.{sum_like, sum_same}
use Rattle.ieee.proofs.Summing.{plus_inside}
use Rattle.ieee.proofs.Fusing.{fused_at}

-- ---- taken apart and put together

whole_of : (q k : ℕ) → Digits q → Whole q k
whole_of q k h = (h.1, λ g. h.0)

pub open_digits : (b : ℕ) → Digits (b % 2 ^ 52 + 2 ^ 52)
open_digits b = (omega arith, omega arith)

pub open_is : (x : Float) → T (fits binary64 x) → 1 ≤ field x → field x ≤ 2046 → value_of (to_bits binary64 x % 2 ^ 52 + 2 ^ 52) (to_bits binary64 x / 2 ^ 52 - 1) ≡ x
open_is x t l h =
    let b = to_bits binary64 x in
    let q = b % 2 ^ 52 + 2 ^ 52 in
    let k = b / 2 ^ 52 - 1 in
    let w = whole_of q k (open_digits b) in
    sym (pattern_is false q k b w (same b l ∙ magnitude_low q k w (small (b / 2 ^ 52) l h))) ∙ of_bits-to_bits binary64 x t
  where
    same : (b : ℕ) → 1 ≤ b / 2 ^ 52 → b ≡ (b / 2 ^ 52 - 1) * 2 ^ 52 + (b % 2 ^ 52 + 2 ^ 52)
    same b l = omega arith

    small : (f : ℕ) → 1 ≤ f → f ≤ 2046 → f - 1 < 2046
    small f l h = omega arith

module _ (q k : ℕ) (d : Digits q) (h : k ≤ 2000) where
  bits : k * 2 ^ 52 + q ≡ to_bits binary64 (value_of q k)
  bits = magnitude_low q k (whole_of q k d) (lt_of_le_of_lt h (lit< tt))

  pub closed_no_nan : nan_bits binary64 (k * 2 ^ 52 + q) ≡ false
  closed_no_nan = pattern_no_nan false q k (k * 2 ^ 52 + q) (whole_of q k d) bits

  pub closed_is : of_bits binary64 (k * 2 ^ 52 + q) ≡ value_of q k
  closed_is = pattern_is false q k (k * 2 ^ 52 + q) (whole_of q k d) bits

  -- as a number, in units of 2 ^ -1074
  pub held : HasValue (value_of q k) false (q * 2 ^ k) (2 ^ 1074)
  held =
      units_val binary64 false q k
      (lt_of_le_of_lt (mul-le-mul_right (2 ^ k) d.1)
      (lt_of_le_of_lt (le_of_eq (sym (pow-add 2 53 k))) (lt_of_le_of_lt (pow_mono (reach k h)) small)))
    where
      reach : (k : ℕ) → k ≤ 2000 → 53 + k ≤ 2053
      reach k h = omega arith

      small : 2 ^ 2053 < limit
      small = lit< tt

-- ---- rounded to 53 digits

-- a digit s below h, half a place below its last or wherever a shift to the left leaves room for it
aside : (h s e u : ℕ) → s ≤ 1 → 1 ≤ u → u ≤ e → Close e h ((2 * h + s) * 2 ^ (e - 1)) ((h * 2 ^ u + s) * 2 ^ (e - u))
aside h s e u hs hu he = go s hs
  where
    halves : 2 * 2 ^ (e - 1) ≡ 2 ^ e
    halves = sym (pow-succ' 2 (e - 1)) ∙ ap (λ (n : ℕ). 2 ^ n) (back e u hu he)
      where
        back : (e u : ℕ) → 1 ≤ u → u ≤ e → suc (e - 1) ≡ e
        back e u h k = omega arith

    parts : 2 ^ u * 2 ^ (e - u) ≡ 2 ^ e
    parts = sym (pow-add 2 u (e - u)) ∙ ap (λ (n : ℕ). 2 ^ n) (join e u he)
      where
        join : (e u : ℕ) → u ≤ e → u + (e - u) ≡ e
        join e u k = omega arith

    lower : 2 ^ (e - u) ≤ 2 ^ (e - 1)
    lower = pow_mono (go e u hu)
      where
        go : (e u : ℕ) → 1 ≤ u → e - u ≤ e - 1
        go e u h = omega arith

    -- with E for 2 ^ e, which is 2 * H and U * W
    even : (h E H U W : ℕ) → 2 * H ≡ E → U * W ≡ E → (2 * h + 0) * H ≡ (h * U + 0) * W
    even h E H U W a b = left h H ∙ ap (λ (x : ℕ). h * x) (a ∙ sym b) ∙ right h U W
      where
        left : (h H : ℕ) → (2 * h + 0) * H ≡ h * (2 * H)
        left h H = omega arith

        right : (h U W : ℕ) → h * (U * W) ≡ (h * U + 0) * W
        right h U W = omega arith

    half_inside : (h E H : ℕ) → 2 * H ≡ E → 0 < H → (h * E < (2 * h + 1) * H) × ((2 * h + 1) * H < suc h * E)
    half_inside h E H a p = (
      lt_of_le_of_lt (le_of_eq (ap (λ (x : ℕ). h * x) (sym a))) (first h H p),
      lt_of_lt_of_le (second h H p) (le_of_eq (ap (λ (x : ℕ). suc h * x) a)),
    )
      where
        first : (h H : ℕ) → 0 < H → h * (2 * H) < (2 * h + 1) * H
        first h H p = omega arith

        second : (h H : ℕ) → 0 < H → (2 * h + 1) * H < suc h * (2 * H)
        second h H p = omega arith

    below_inside : (h E U W : ℕ) → U * W ≡ E → 0 < W → W < E → (h * E < (h * U + 1) * W) × ((h * U + 1) * W < suc h * E)
    below_inside h E U W b p l = (
      lt_of_lt_of_le (first (h * E) W p) (le_of_eq (sym (spread h E U W b))),
      lt_of_le_of_lt (le_of_eq (spread h E U W b)) (lt_of_lt_of_le (second (h * E) W E l) (le_of_eq (sym (suc-mul h E)))),
    )
      where
        spread : (h E U W : ℕ) → U * W ≡ E → (h * U + 1) * W ≡ h * E + W
        spread h E U W b = open' h U W ∙ ap (λ (x : ℕ). h * x + W) b
          where
            open' : (h U W : ℕ) → (h * U + 1) * W ≡ h * (U * W) + W
            open' h U W = omega arith

        first : (x W : ℕ) → 0 < W → x < x + W
        first x W p = omega arith

        second : (x W E : ℕ) → W < E → x + W < x + E
        second x W E p = omega arith

    under : (W H E : ℕ) → W ≤ H → 0 < H → 2 * H ≡ E → W < E
    under W H E a p b = omega arith

    go : (s : ℕ) → s ≤ 1 → Close e h ((2 * h + s) * 2 ^ (e - 1)) ((h * 2 ^ u + s) * 2 ^ (e - u))
    go zero k = inl (even h (2 ^ e) (2 ^ (e - 1)) (2 ^ u) (2 ^ (e - u)) halves parts)
    go (suc zero) k =
        let a = half_inside h (2 ^ e) (2 ^ (e - 1)) halves (pow_pos (e - 1)) in
        let b = below_inside h (2 ^ e) (2 ^ u) (2 ^ (e - u)) parts (pow_pos (e - u)) (under (2 ^ (e - u)) (2 ^ (e - 1)) (2 ^ e) lower (pow_pos (e - 1)) halves) in
        inr (record { above = a.0; below = a.1 }, record { above = b.0; below = b.1 })
    go (suc (suc s)) k = absurd (big s k)
      where
        big : (s : ℕ) → suc (suc s) ≤ 1 → ⊥
        big s k = omega arith

module _ (h s place : ℕ) (over : 2 ^ 53 ≤ h) (under : h < 2 ^ 62) (hs : s ≤ 1) (hp : 62 ≤ place) where
  abbrev up : ℕ
  up = count_leading_zeros 64 h - 1

  abbrev m : ℕ
  m = h * 2 ^ up % 2 ^ 64 + s

  positive : 0 < h
  positive = lt_of_lt_of_le (lit< tt) over

  under_63 : h < 2 ^ 63
  under_63 = lt_of_lt_of_le under (lit≤ tt)

  far : 1255 ≤ place + 1193
  far = go place hp
    where
      go : (p : ℕ) → 62 ≤ p → 1255 ≤ p + 1193
      go p h = omega arith

  pub zeros_some : 1 ≤ count_leading_zeros 64 h
  zeros_some = zeros_pos h h (place + 1193) positive under_63 (λ j k l. (k, l)) far

  -- a leading digit at d or above
  up_from : (d : ℕ) → 2 ^ d ≤ h → up + d ≤ 62
  up_from d o =
      let t = leading_top 64 h positive (lt_of_lt_of_le under (lit≤ tt)) in
      go (count_leading_zeros 64 h) t.0 d t.1 zeros_some (pow_lt_back d (suc t.0) (lt_of_le_of_lt o t.3))
    where
      go : (z j d : ℕ) → z + suc j ≡ 64 → 1 ≤ z → d < suc j → z - 1 + d ≤ 62
      go z j d e a b = omega arith

  -- the leading digit stands at 53 to 61
  pub up_range : (1 ≤ up) × (up ≤ 9)
  up_range =
      let t = leading_top 64 h positive (lt_of_lt_of_le under (lit≤ tt)) in
      (go (count_leading_zeros 64 h) t.0 t.1 (pow_lt_back t.0 62 (lt_of_le_of_lt t.2 under)), back up (up_from 53 over))
    where
      go : (z j : ℕ) → z + suc j ≡ 64 → j < 62 → 1 ≤ z - 1
      go z j e b = omega arith

      back : (u : ℕ) → u + 53 ≤ 62 → u ≤ 9
      back u h = omega arith

  pub up_most : 2 ^ 54 ≤ h → up ≤ 8
  up_most o = back up (up_from 54 o)
    where
      back : (u : ℕ) → u + 54 ≤ 62 → u ≤ 8
      back u h = omega arith

  raised : (2 ^ 62 ≤ h * 2 ^ up % 2 ^ 64) × (h * 2 ^ up % 2 ^ 64 < 2 ^ 63) × (1193 ≤ place + 1193 - up)
  raised = raised_full h h (place + 1193) positive under_63 (λ j k l. (k, l)) far

  pub exact_shift : h * 2 ^ up % 2 ^ 64 ≡ h * 2 ^ up
  exact_shift = raised_exact h h (place + 1193) positive under_63 (λ j k l. (k, l)) far

  pub settled_under : m < 2 ^ 63
  settled_under = go (h * 2 ^ up % 2 ^ 64) (h * 2 ^ (up - 1)) s (exact_shift ∙ even h up up_range.0) raised.1 hs
    where
      even : (h u : ℕ) → 1 ≤ u → h * 2 ^ u ≡ 2 * (h * 2 ^ (u - 1))
      even h u k = ap (λ (n : ℕ). h * 2 ^ n) (back u k) ∙ ap (λ (x : ℕ). h * x) (pow-succ' 2 (u - 1)) ∙ regroup h (2 ^ (u - 1))
        where
          back : (u : ℕ) → 1 ≤ u → u ≡ suc (u - 1)
          back u k = omega arith

          regroup : (h x : ℕ) → h * (2 * x) ≡ 2 * (h * x)
          regroup h x = omega arith

      go : (y x s : ℕ) → y ≡ 2 * x → y < 2 ^ 63 → s ≤ 1 → y + s < 2 ^ 63
      go y x s e a b = omega arith

  settled_over : 2 ^ 62 ≤ m
  settled_over = le_trans raised.0 (le-add_right (h * 2 ^ up % 2 ^ 64) s)

  same_place : place + 1193 - up - 1193 ≡ place - up
  same_place = go place up
    where
      go : (p u : ℕ) → p + 1193 - u - 1193 ≡ p - u
      go p u = omega arith

  pub settled_digits : Digits ((m + 511 + m / 1024 % 2) / 1024)
  settled_digits =
      let w = full_whole m (place + 1193 - up) settled_over settled_under raised.2 in
      (w.1 (lt_of_lt_of_le (some place up hp up_range.1) (le_of_eq (sym same_place))), w.0)
    where
      some : (p u : ℕ) → 62 ≤ p → u ≤ 9 → 0 < p - u
      some p u h k = omega arith

  pub settled : value_of ((m + 511 + m / 1024 % 2) / 1024) (place - up) ≡ round binary64 false ((2 * h + s) * 2 ^ (place + 1192)) (2 ^ 2277)
  settled =
      let e = place + 1193 in
      ap (value_of ((m + 511 + m / 1024 % 2) / 1024)) (sym same_place)
      ∙ full_is m (e - up) settled_over settled_under raised.2 false
      ∙ ap (λ (x : ℕ). round binary64 false ((x + s) * 2 ^ (e - up)) (2 ^ 2277)) exact_shift
      ∙ sym (round_close binary64 false 1203 e h ((2 * h + s) * 2 ^ (e - 1)) ((h * 2 ^ up + s) * 2 ^ (e - up)) (size_gt h 53 over) (aside h s e up hs up_range.0 (below place up hp up_range.1)))
      ∙ ap (λ (n : ℕ). round binary64 false ((2 * h + s) * 2 ^ n) (2 ^ 2277)) (pred place)
    where
      below : (p u : ℕ) → 62 ≤ p → u ≤ 9 → u ≤ p + 1193
      below p u h k = omega arith

      pred : (p : ℕ) → p + 1193 - 1 ≡ p + 1192
      pred p = omega arith

-- ---- one step: q * 2 ^ i times y * 2 ^ j, plus k * 2 ^ l

pub record Operands (q i y j k l : ℕ) : Type 0 where
  pub first : Digits q
  pub second : Digits y
  pub third : Digits k
  pub first_place : i ≤ 2000
  pub second_place : j ≤ 2000
  pub third_place : l ≤ 2000

module _ (q i y j k l : ℕ) (O : Operands q i y j k l) where
  abbrev asked : Float
  asked = fused_of (value_of q i) (value_of y j) (value_of k l)

  -- the product of the significands, as they are multiplied
  abbrev v : ℕ
  v = q * 2 ^ 9 * (y * 2 ^ 10)

  -- the exact sum, in units of 2 ^ -2277
  abbrev exact : ℕ
  exact = 2 * v * 2 ^ (i + j + 109) + 4 * k * 2 ^ (l + 1201)

  fused_exact : asked ≡ round binary64 false exact (2 ^ 2277)
  fused_exact =
      let L = 2 ^ 1074 in
      fused_at (value_of q i) (value_of y j) (value_of k l) false false false (q * 2 ^ i) (y * 2 ^ j) (k * 2 ^ l) L (pow_pos 1074) (held q i O.first O.first_place) (held y j O.second O.second_place) (held k l O.third O.third_place)
      ∙ sum_same binary64 false (q * 2 ^ i * (y * 2 ^ j)) false (k * 2 ^ l * L) (L * L) (2 * v * 2 ^ (i + j + 109)) (4 * k * 2 ^ (l + 1201)) (2 ^ 2277)
      (mul-pos (pow_pos 1074) (pow_pos 1074)) (pow_pos 2277)
      (ap (λ (x : ℕ). q * 2 ^ i * (y * 2 ^ j) * x) unit
      ∙ product q y (2 ^ i) (2 ^ j) (2 ^ 109) (L * L)
      ∙ ap (λ (x : ℕ). 2 * v * x * (L * L)) (sym (pow-add 2 (i + j) 109 ∙ ap (λ (x : ℕ). x * 2 ^ 109) (pow-add 2 i j))))
      (ap (λ (x : ℕ). k * 2 ^ l * L * x) unit
      ∙ placed k (2 ^ l) (2 ^ 109) L
      ∙ ap (λ (x : ℕ). 4 * k * x * (L * L)) (sym (pow-add 2 l 1201 ∙ ap (λ (x : ℕ). 2 ^ l * x) below)))
      ∙ sum_like binary64 false (2 * v * 2 ^ (i + j + 109)) false (4 * k * 2 ^ (l + 1201)) (2 ^ 2277) refl
    where
      unit : 2 ^ 2277 ≡ 2 ^ 20 * 2 ^ 109 * (2 ^ 1074 * 2 ^ 1074)
      unit = refl

      below : 2 ^ 1201 ≡ 2 ^ 18 * 2 ^ 109 * 2 ^ 1074
      below = refl

      product : (q y A B P M : ℕ) → q * A * (y * B) * (2 ^ 20 * P * M) ≡ 2 * (q * 2 ^ 9 * (y * 2 ^ 10)) * (A * B * P) * M
      product q y A B P M = omega arith

      placed : (k A P L : ℕ) → k * A * L * (2 ^ 20 * P * (L * L)) ≡ 4 * k * (A * (2 ^ 18 * P * L)) * (L * L)
      placed k A P L = omega arith

  -- the size of the product, and of an upper word
  upper_le : (n m : ℕ) → n ≤ m * 2 ^ 64 → n / 2 ^ 64 ≤ m
  upper_le n m h = le_of_suc-le-suc ((div-lt_iff_lt-mul (pow_pos 64)).1 (lt_of_le_of_lt h (mul-lt-mul_of_pos_right (le_refl (suc m)) (pow_pos 64))))

  product_le : v ≤ 2 ^ 61 * 2 ^ 64
  product_le = le_trans (mul-le-mul (at_most q 53 9 O.first.1) (at_most y 53 10 O.second.1)) (le_of_eq split)
    where
      split : 2 ^ 62 * 2 ^ 63 ≡ 2 ^ 61 * 2 ^ 64
      split = refl

      at_most : (n a b : ℕ) → n ≤ 2 ^ a → n * 2 ^ b ≤ 2 ^ (a + b)
      at_most n a b h = le_trans (mul-le-mul_right (2 ^ b) h) (le_of_eq (sym (pow-add 2 a b)))

  product_ge : 2 ^ 59 * 2 ^ 64 ≤ v
  product_ge = le_trans (le_of_eq split) (mul-le-mul (at_least q 52 9 O.first.0) (at_least y 52 10 O.second.0))
    where
      split : 2 ^ 59 * 2 ^ 64 ≡ 2 ^ 61 * 2 ^ 62
      split = refl

      at_least : (n a b : ℕ) → 2 ^ a ≤ n → 2 ^ (a + b) ≤ n * 2 ^ b
      at_least n a b h = le_trans (le_of_eq (pow-add 2 a b)) (mul-le-mul_right (2 ^ b) h)

  -- the product shifted to the place of the third operand: a is what is left of it, and b the sticky digit
  module _ (le : i + j ≤ l + 1027) (a b : ℕ) (is : 2 * a + b ≡ jammed v (64 + (l + 1027 - (i + j)))) where
    abbrev d : ℕ
    d = l + 1027 - (i + j)

    near_le : 2 * a + b ≤ 2 ^ 62 + 1
    near_le =
        le_trans (le_of_eq is)
        (go (v / 2 ^ (64 + d)) (v % 2 ^ (64 + d)) (le_trans (le_of_eq (sym (shr-shr v 64 d))) (le_trans (div-le_self (v / 2 ^ 64) (2 ^ d)) (upper_le v (2 ^ 61) product_le))))
      where
        go : (q r : ℕ) → q ≤ 2 ^ 61 → 2 * q + min r 1 ≤ 2 ^ 62 + 1
        go q r h = omega arith

    pub near_bounds : (2 ^ 54 ≤ k * 4 + a) × (k * 4 + a < 2 ^ 62)
    near_bounds = go k a b O.third.0 O.third.1 near_le
      where
        go : (k a b : ℕ) → 2 ^ 52 ≤ k → k ≤ 2 ^ 53 → 2 * a + b ≤ 2 ^ 62 + 1 → (2 ^ 54 ≤ k * 4 + a) × (k * 4 + a < 2 ^ 62)
        go k a b x y z = (omega arith, omega arith)

    pub near_step : round binary64 false ((2 * (k * 4 + a) + b) * 2 ^ (l + 8 + 1192)) (2 ^ 2277) ≡ asked
    near_step =
        let N = l + 1200 in
        let A = v / 2 ^ (64 + d) in
        let x = 2 * v * 2 ^ (i + j + 109) in
        let r = jammed v (64 + d) in
        let C : Close (suc N) A x (r * 2 ^ N) = subst (λ (n : ℕ). Close (suc n) A x (r * 2 ^ n)) (join i j l le) (jam_close v (64 + d) (i + j + 109)) in
        ap₂ (λ (t n : ℕ). round binary64 false (t * 2 ^ n) (2 ^ 2277)) (regroup k a b ∙ ap (λ (t : ℕ). 8 * k + t) is) (same l)
        ∙ ap (λ (t : ℕ). round binary64 false t (2 ^ 2277)) (spread k r (2 ^ N) ∙ ap (λ (t : ℕ). 4 * k * t + r * 2 ^ N) (sym (pow-succ' 2 N)))
        ∙ sym (round_close binary64 false 1203 (suc N) (4 * k + A) (4 * k * 2 ^ suc N + x) (4 * k * 2 ^ suc N + r * 2 ^ N) (digits A) (more (suc N) A x (r * 2 ^ N) C))
        ∙ ap (λ (t : ℕ). round binary64 false t (2 ^ 2277)) (swap (4 * k * 2 ^ suc N) x ∙ ap (λ (n : ℕ). x + 4 * k * 2 ^ n) (next l))
        ∙ sym fused_exact
      where
        join : (i j l : ℕ) → i + j ≤ l + 1027 → i + j + 109 + (64 + (l + 1027 - (i + j))) ≡ l + 1200
        join i j l h = omega arith

        regroup : (k a b : ℕ) → 2 * (k * 4 + a) + b ≡ 8 * k + (2 * a + b)
        regroup k a b = omega arith

        same : (l : ℕ) → l + 8 + 1192 ≡ l + 1200
        same l = omega arith

        next : (l : ℕ) → suc (l + 1200) ≡ l + 1201
        next l = omega arith

        swap : (a b : ℕ) → a + b ≡ b + a
        swap a b = omega arith

        spread : (k r p : ℕ) → (8 * k + r) * p ≡ 4 * k * (2 * p) + r * p
        spread k r p = omega arith

        digits : (A : ℕ) → 53 < size (4 * k + A)
        digits A = size_gt (4 * k + A) 53 (go k A O.third.0)
          where
            go : (k A : ℕ) → 2 ^ 52 ≤ k → 2 ^ 53 ≤ 4 * k + A
            go k A h = omega arith

        more : (n A a b : ℕ) → Close n A a b → Close n (4 * k + A) (4 * k * 2 ^ n + a) (4 * k * 2 ^ n + b)
        more n A a b (inl s) = inl (ap (λ (x : ℕ). 4 * k * 2 ^ n + x) s)
        more n A a b (inr t) = inr (plus_inside n (4 * k) A a t.0, plus_inside n (4 * k) A b t.1)

  -- the third operand shifted to the place of the product
  module _ (lt : l + 1027 < i + j) (close : i + j < l + 1091) where
    abbrev D : ℕ
    D = i + j - (l + 1027)

    -- the third operand at that place
    abbrev w : ℕ
    w = k * 4 * 2 ^ 64 / 2 ^ D

    abbrev s : ℕ
    s = v + w

    D-lt : D < 64
    D-lt = go i j l close
      where
        go : (i j l : ℕ) → i + j < l + 1091 → i + j - (l + 1027) < 64
        go i j l h = omega arith

    w_is : w ≡ k * 4 * 2 ^ (64 - D)
    w_is = ap (λ (x : ℕ). k * 4 * x / 2 ^ D) (sym (ap (λ (x : ℕ). 2 ^ x) (join D D-lt)) ∙ pow-add 2 (64 - D) D) ∙ ap (λ (x : ℕ). x / 2 ^ D) (sym (mul_assoc (k * 4) (2 ^ (64 - D)) (2 ^ D))) ∙ shl-shr (k * 4 * 2 ^ (64 - D)) D
      where
        join : (d : ℕ) → d < 64 → 64 - d + d ≡ 64
        join d h = omega arith

    w_le : w ≤ 2 ^ 55 * 2 ^ 64
    w_le = le_trans (div-le_self (k * 4 * 2 ^ 64) (2 ^ D)) (mul-le-mul_right (2 ^ 64) (go k O.third.1))
      where
        go : (k : ℕ) → k ≤ 2 ^ 53 → k * 4 ≤ 2 ^ 55
        go k h = omega arith

    s_le : s ≤ (2 ^ 61 + 2 ^ 55) * 2 ^ 64
    s_le = both (2 ^ 61) (2 ^ 55) (2 ^ 64) v w product_le w_le
      where
        both : (a b p x y : ℕ) → x ≤ a * p → y ≤ b * p → x + y ≤ (a + b) * p
        both a b p x y h g = omega arith

    sum_ge : 2 ^ 59 ≤ s / 2 ^ 64
    sum_ge = (le-div_iff_mul-le (pow_pos 64)).1 (le_trans product_ge (le-add_right v w))

    sum_le : s / 2 ^ 64 ≤ 2 ^ 61 + 2 ^ 55
    sum_le = upper_le s (2 ^ 61 + 2 ^ 55) s_le

    -- a is the upper word of the sum, and b the sticky digit
    module _ (a b : ℕ) (is : 2 * a + b ≡ jammed s 64) (digit : b ≤ 1) where
      pub far_bounds : (2 ^ 54 ≤ a) × (a < 2 ^ 62)
      far_bounds = go (s / 2 ^ 64) a b (s % 2 ^ 64) is digit sum_ge sum_le
        where
          go : (h a b t : ℕ) → 2 * a + b ≡ 2 * h + min t 1 → b ≤ 1 → 2 ^ 59 ≤ h → h ≤ 2 ^ 61 + 2 ^ 55 → (2 ^ 54 ≤ a) × (a < 2 ^ 62)
          go h a b t e d x y = (omega arith, omega arith)

      pub far_step : round binary64 false ((2 * a + b) * 2 ^ (i + j - 1019 + 1192)) (2 ^ 2277) ≡ asked
      far_step =
          let E = i + j + 109 in
          ap₂ (λ (x n : ℕ). round binary64 false (x * 2 ^ n) (2 ^ 2277)) is (same i j l lt)
          ∙ sym (round_close binary64 false 1203 (suc (E + 64)) (s / 2 ^ 64) (2 * s * 2 ^ E) (jammed s 64 * 2 ^ (E + 64)) digits (jam_close s 64 E))
          ∙ ap (λ (x : ℕ). round binary64 false x (2 ^ 2277)) value
          ∙ sym fused_exact
        where
          same : (i j l : ℕ) → l + 1027 < i + j → i + j - 1019 + 1192 ≡ i + j + 109 + 64
          same i j l h = omega arith

          digits : 53 < size (s / 2 ^ 64)
          digits = size_gt (s / 2 ^ 64) 53 (le_trans (lit≤ tt) sum_ge)

          value : 2 * s * 2 ^ (i + j + 109) ≡ exact
          value =
              let U = 2 ^ (i + j + 109) in
              ap (λ (x : ℕ). 2 * (v + x) * U) w_is
              ∙ spread v k (2 ^ (64 - D)) U
              ∙ ap (λ (x : ℕ). 2 * v * U + 4 * k * x) (sym (pow-succ' 2 (64 - D + (i + j + 109)) ∙ ap (λ (x : ℕ). 2 * x) (pow-add 2 (64 - D) (i + j + 109))) ∙ ap (λ (n : ℕ). 2 ^ n) (place i j l lt close))
            where
              spread : (v k p u : ℕ) → 2 * (v + k * 4 * p) * u ≡ 2 * v * u + 4 * k * (2 * (p * u))
              spread v k p u = omega arith

              place : (i j l : ℕ) → l + 1027 < i + j → i + j < l + 1091 → suc (64 - (i + j - (l + 1027)) + (i + j + 109)) ≡ l + 1201
              place i j l h g = omega arith
