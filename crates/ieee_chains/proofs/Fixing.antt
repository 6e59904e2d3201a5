-- Fixed point: a number brought to it (`fixed_is`), one rounded to 53 digits in it (`settled_held`), and the fused sum of three numbers in it (`sum_is`). Assumes nothing.
use mathlib.Core.Path.{◌≡◌, refl, sym, ap, ap₂, ◌∙◌, subst}
use mathlib.Core.Bool.{Bool, false}
use Prim.Native.Nat.{ℕ, ◌+◌, ◌-◌, ◌*◌, ◌/◌, ◌%◌, ◌^◌, ◌≤◌, ◌<◌, min}
use native.Mathlib.Nat.{le_trans, le_of_eq, lt_of_lt_of_le, mul-pos, mul_assoc, mul_comm, mul-div_cancel, mul-le-mul_right, le_of_mul-le-mul_right, eq_of_mul-eq-mul_right, mod-eq_of_lt, le_of_lt, add-mul-div_right, add-mul-mod_self_right, div-le_of_le-mul}
use native.Mathlib.Omega.{arith}
use lib.Dec.{T, lit≤}
use lib.Pow.{pow-add, pow_pos, pow_mono, shl_lt}
use lib.Count.{count_leading_zeros}
use lib.Ieee.{Float, nan, inf, fin, binary64, down, round, fits, to_bits}
use lib.Ieee.Exact.{HasValue}
use lib.Ieee.Fits.{round-fits}
use lib.Ieee.Scale.{round_same}
use Rattle.ieee_words.specs.Words.{jammed}
use Rattle.ieee_significands.proofs.Rounding.{round_close, jam_close, size_gt}
use Rattle.ieee.specs.Fused.{fused_of}
use Rattle.ieee_chains.specs.Open.{value_of, field, Digits}
use Rattle.ieee_chains.specs.Fixed.{Held, settled_of}
use Rattle.ieee.proofs.Sums.{sum_like}
use Rattle.ieee.proofs.Fusing.{fused_at}
use Rattle.ieee_chains.proofs.Opening.{open_is, open_digits, held, up_range, exact_shift, settled_digits, settled}

-- ---- powers of two, and one number over two denominators

powers : (a b c d : ℕ) → a + b ≡ c + d → 2 ^ a * 2 ^ b ≡ 2 ^ c * 2 ^ d
powers a b c d e = sym (pow-add 2 a b) ∙ ap (λ (n : ℕ). 2 ^ n) e ∙ pow-add 2 c d

-- n * 2 ^ a over 2 ^ d is n * 2 ^ c over 2 ^ b
weighed : (n a b c d : ℕ) → a + b ≡ c + d → n * 2 ^ a * 2 ^ b ≡ n * 2 ^ c * 2 ^ d
weighed n a b c d e = mul_assoc n (2 ^ a) (2 ^ b) ∙ ap (λ (x : ℕ). n * x) (powers a b c d e) ∙ sym (mul_assoc n (2 ^ c) (2 ^ d))

same_value : (x : Float) (s : Bool) (a c b d : ℕ) → 0 < c → b * c ≡ a * d → HasValue x s a c → HasValue x s b d
same_value nan s a c b d p h v = v
same_value (inf t) s a c b d p h v = v
same_value (fin t m e) s a c b d p h v = (v.0, eq_of_mul-eq-mul_right c p _ _ (left _ d c ∙ ap (λ (x : ℕ). x * d) v.1 ∙ left a _ d ∙ ap (λ (x : ℕ). x * down e) (sym h) ∙ left b c _))
  where
    left : (m d c : ℕ) → m * d * c ≡ m * c * d
    left m d c = omega arith

-- ---- rounded to 53 digits

module _ (h s : ℕ) (over : 2 ^ 53 ≤ h) (under : h < 2 ^ 62) (hs : s ≤ 1) where
  abbrev up : ℕ
  up = count_leading_zeros 64 h - 1

  abbrev m : ℕ
  m = h * 2 ^ up % 2 ^ 64 + s

  abbrev q : ℕ
  q = (m + 511 + m / 1024 % 2) / 1024

  pub range : (1 ≤ up) × (up ≤ 9)
  range = up_range h s 62 over under hs (lit≤ tt)

  pub digits : Digits q
  digits = settled_digits h s 62 over under hs (lit≤ tt)

  r_is : q * 1024 / 2 ^ up ≡ q * 2 ^ (10 - up)
  r_is = ap (λ (x : ℕ). x / 2 ^ up) (ap (λ (x : ℕ). q * x) (split up range.1) ∙ sym (mul_assoc q (2 ^ (10 - up)) (2 ^ up))) ∙ mul-div_cancel (q * 2 ^ (10 - up)) (pow_pos up)
    where
      split : (u : ℕ) → u ≤ 9 → 1024 ≡ 2 ^ (10 - u) * 2 ^ u
      split u k = ap (λ (n : ℕ). 2 ^ n) (join u k) ∙ pow-add 2 (10 - u) u
        where
          join : (u : ℕ) → u ≤ 9 → 10 ≡ 10 - u + u
          join u k = omega arith

  -- the places of the f64, which are those of a number taken apart
  pub settled_place : (g : ℕ) → 1084 - g - up ≤ 2000
  settled_place g = go g up
    where
      go : (g u : ℕ) → 1084 - g - u ≤ 2000
      go g u = omega arith

  pub settled_is : (g : ℕ) → g ≤ 60 → value_of q (1084 - g - up) ≡ settled_of h s g
  settled_is g few =
      settled h s (1084 - g) over under hs (far g few)
      ∙ round_same binary64 false ((2 * h + s) * 2 ^ (1084 - g + 1192)) (2 ^ 2277) ((2 * h + s) * 2 ^ (63 - g)) (2 ^ 64) (pow_pos 2277) (pow_pos 64) (weighed (2 * h + s) (1084 - g + 1192) 64 (63 - g) 2277 (sums g few))
    where
      far : (g : ℕ) → g ≤ 60 → 62 ≤ 1084 - g
      far g h = omega arith

      sums : (g : ℕ) → g ≤ 60 → 1084 - g + 1192 + 64 ≡ 63 - g + 2277
      sums g h = omega arith

  pub settled_held : (g : ℕ) → g ≤ 60 → Held (settled_of h s g) (q * 1024 / 2 ^ up) g
  settled_held g few =
      let k = 1084 - g - up in
      record {
        fitted = round-fits binary64 false ((2 * h + s) * 2 ^ (63 - g)) (2 ^ 64);
        value =
            subst (λ (x : Float). HasValue x false (q * 1024 / 2 ^ up * 2 ^ (64 - g)) (2 ^ 64)) (settled_is g few)
            (same_value (value_of q k) false (q * 2 ^ k) (2 ^ 1074) (q * 1024 / 2 ^ up * 2 ^ (64 - g)) (2 ^ 64) (pow_pos 1074)
            (ap (λ (x : ℕ). x * 2 ^ (64 - g) * 2 ^ 1074) r_is ∙ ap (λ (x : ℕ). x * 2 ^ 1074) (mul_assoc q (2 ^ (10 - up)) (2 ^ (64 - g)) ∙ ap (λ (x : ℕ). q * x) (sym (pow-add 2 (10 - up) (64 - g)))) ∙ weighed q (10 - up + (64 - g)) 1074 k 64 (places g up few range.1))
            (held q k digits (settled_place g)));
      }
    where
      places : (g u : ℕ) → g ≤ 60 → u ≤ 9 → 10 - u + (64 - g) + 1074 ≡ 1084 - g - u + 64
      places g u h k = omega arith

  pub settled_most : q * 1024 / 2 ^ up ≤ h + 512
  settled_most = le_trans (le_of_eq r_is) (go (q * 2 ^ (10 - up)) h (2 ^ up) (pow_pos up) (le_trans (le_of_eq whole) (le_trans (kept m) (le_trans (le_of_eq (ap (λ (x : ℕ). x + s + 512) shifted)) (room (h * 2 ^ up) s (2 ^ up) hs (two up range.0))))))
    where
      whole : q * 2 ^ (10 - up) * 2 ^ up ≡ q * 1024
      whole = mul_assoc q (2 ^ (10 - up)) (2 ^ up) ∙ ap (λ (x : ℕ). q * x) (sym (pow-add 2 (10 - up) up) ∙ ap (λ (n : ℕ). 2 ^ n) (join up range.1))
        where
          join : (u : ℕ) → u ≤ 9 → 10 - u + u ≡ 10
          join u k = omega arith

      kept : (m : ℕ) → (m + 511 + m / 1024 % 2) / 1024 * 1024 ≤ m + 512
      kept m = omega arith

      shifted : h * 2 ^ up % 2 ^ 64 ≡ h * 2 ^ up
      shifted = exact_shift h s 62 over under hs (lit≤ tt)

      two : (u : ℕ) → 1 ≤ u → 2 ≤ 2 ^ u
      two u k = pow_mono k

      room : (x s U : ℕ) → s ≤ 1 → 2 ≤ U → x + s + 512 ≤ x + 512 * U
      room x s U a b = omega arith

      go : (r h U : ℕ) → 0 < U → r * U ≤ h * U + 512 * U → r ≤ h + 512
      go r h U p k = le_of_mul-le-mul_right (le_trans k (le_of_eq (spread h U))) p
        where
          spread : (h U : ℕ) → h * U + 512 * U ≡ (h + 512) * U
          spread h U = omega arith

-- ---- one step: the fused sum of a, with two places more than c, times y, with 62, and c

module _ (a y c g : ℕ) (x z k : Float) (few : g ≤ 60) (A : Held x a (g + 2)) (Y : Held z y 62) (C : Held k c g) where
  -- the exact sum, with 64 places more than c
  abbrev S : ℕ
  S = a * y + c * 2 ^ 64

  fused_exact : fused_of x z k ≡ round binary64 false (2 * S * 2 ^ (2212 - g)) (2 ^ 2277)
  fused_exact =
      let L = 2 ^ 64 in
      let X = a * 2 ^ (64 - (g + 2)) in
      let Z = y * 2 ^ (64 - 62) in
      let K = c * 2 ^ (64 - g) in
      fused_at x z k false false false X Z K L (pow_pos 64) A.value Y.value C.value
      ∙ sum_like binary64 false (X * Z) false (K * L) (L * L) refl
      ∙ round_same binary64 false (X * Z + K * L) (L * L) (2 * S * 2 ^ (2212 - g)) (2 ^ 2277) (mul-pos (pow_pos 64) (pow_pos 64)) (pow_pos 2277)
      (ap (λ (w : ℕ). (X * Z + c * w * L) * 2 ^ 2277) (wider g few)
      ∙ left a y c (2 ^ (64 - (g + 2))) L (2 ^ 2277)
      ∙ ap (λ (w : ℕ). S * 2 ^ (64 - (g + 2)) * w) unit
      ∙ right S (2 ^ (64 - (g + 2))) (2 ^ 2150) L
      ∙ ap (λ (w : ℕ). 2 * S * w * (L * L)) (sym (pow-add 2 (64 - (g + 2)) 2150) ∙ ap (λ (n : ℕ). 2 ^ n) (place g few)))
    where
      wider : (g : ℕ) → g ≤ 60 → 2 ^ (64 - g) ≡ 4 * 2 ^ (64 - (g + 2))
      wider g h = ap (λ (n : ℕ). 2 ^ n) (go g h) ∙ pow-add 2 2 (64 - (g + 2))
        where
          go : (g : ℕ) → g ≤ 60 → 64 - g ≡ 2 + (64 - (g + 2))
          go g h = omega arith

      place : (g : ℕ) → g ≤ 60 → 64 - (g + 2) + 2150 ≡ 2212 - g
      place g h = omega arith

      unit : 4 * 2 ^ 2277 ≡ 2 * 2 ^ 2150 * (2 ^ 64 * 2 ^ 64)
      unit = refl

      left : (a y c P M B : ℕ) → (a * P * (y * 4) + c * (4 * P) * M) * B ≡ (a * y + c * M) * P * (4 * B)
      left a y c P M B = omega arith

      right : (S P Q M : ℕ) → S * P * (2 * Q * (M * M)) ≡ 2 * S * (P * Q) * (M * M)
      right S P Q M = omega arith

  fused_held : 2 ^ 53 ≤ S / 2 ^ 64 → fused_of x z k ≡ settled_of (S / 2 ^ 64) (min (S % 2 ^ 64) 1) g
  fused_held over =
      let E = 2212 - g in
      fused_exact
      ∙ round_close binary64 false 1203 _ (S / 2 ^ 64) (2 * S * 2 ^ E) (jammed S 64 * 2 ^ (E + 64)) (size_gt (S / 2 ^ 64) 53 over) (jam_close S 64 E)
      ∙ round_same binary64 false (jammed S 64 * 2 ^ (E + 64)) (2 ^ 2277) (jammed S 64 * 2 ^ (63 - g)) (2 ^ 64) (pow_pos 2277) (pow_pos 64) (weighed (jammed S 64) (E + 64) 64 (63 - g) 2277 (sums g few))
    where
      sums : (g : ℕ) → g ≤ 60 → 2212 - g + 64 + 64 ≡ 63 - g + 2277
      sums g h = omega arith

-- ---- brought to fixed point

pub fixed_is : (x : Float) → T (fits binary64 x) → 1013 ≤ field x → field x ≤ 1024 → Held x ((to_bits binary64 x % 2 ^ 52 + 2 ^ 52) * 2 ^ (field x - 1013) % 2 ^ 64) 62
fixed_is x t l h =
    let q = to_bits binary64 x % 2 ^ 52 + 2 ^ 52 in
    let f = field x in
    let d = open_digits (to_bits binary64 x) in
    record {
      fitted = t;
      value =
          same_value x false (q * 2 ^ (f - 1)) (2 ^ 1074) (q * 2 ^ (f - 1013) % 2 ^ 64 * 2 ^ (64 - 62)) (2 ^ 64) (pow_pos 1074)
          (ap (λ (n : ℕ). n * 2 ^ 2 * 2 ^ 1074) (mod-eq_of_lt (lt_of_lt_of_le (shl_lt 53 (f - 1013) (top (to_bits binary64 x))) (pow_mono {j = 64} (small f h))))
          ∙ ap (λ (n : ℕ). n * 2 ^ 1074) (mul_assoc q (2 ^ (f - 1013)) (2 ^ 2) ∙ ap (λ (n : ℕ). q * n) (sym (pow-add 2 (f - 1013) 2)))
          ∙ weighed q (f - 1013 + 2) 1074 (f - 1) 64 (places f l))
          (subst (λ (u : Float). HasValue u false (q * 2 ^ (f - 1)) (2 ^ 1074)) (open_is x t (le_trans (lit≤ tt) l) (le_trans h (lit≤ tt))) (held q (f - 1) d (near f h)));
    }
  where
    places : (f : ℕ) → 1013 ≤ f → f - 1013 + 2 + 1074 ≡ f - 1 + 64
    places f l = omega arith

    top : (b : ℕ) → b % 2 ^ 52 + 2 ^ 52 < 2 ^ 53
    top b = omega arith

    small : (f : ℕ) → f ≤ 1024 → 53 + (f - 1013) ≤ 64
    small f h = omega arith

    near : (f : ℕ) → f ≤ 1024 → f - 1 ≤ 2000
    near f h = omega arith

-- ---- the sum as the code has it: c added to the product's upper word, h, and of its lower word a sticky digit, s

pub upper_most : (a y c h : ℕ) → y < 2 ^ 64 → h ≡ a * y / 2 ^ 64 + c → h ≤ a + c
upper_most a y c h word H = le_trans (le_of_eq H) (go (div-le_of_le-mul (2 ^ 64) (le_trans (le_of_eq (mul_comm a y)) (mul-le-mul_right a (le_of_lt word)))))
  where
    go : {u : ℕ} → u ≤ a → u + c ≤ a + c
    go h = omega arith

pub sum_is : (a y c h s : ℕ) → h ≡ a * y / 2 ^ 64 + c → s ≡ min (a * y % 2 ^ 64) 1 → 2 ^ 53 ≤ h → (g : ℕ) (x z k : Float) → g ≤ 60 → Held x a (g + 2) → Held z y 62 → Held k c g → settled_of h s g ≡ fused_of x z k
sum_is a y c h s H D over g x z k few A Y C =
    let S = a * y + c * 2 ^ 64 in
    let upper : h ≡ S / 2 ^ 64 = H ∙ sym (add-mul-div_right (a * y) c (pow_pos 64)) in
    ap₂ (λ (h d : ℕ). settled_of h d g) upper (D ∙ ap (λ (n : ℕ). min n 1) (sym (add-mul-mod_self_right (a * y) c (2 ^ 64))))
    ∙ sym (fused_held a y c g x z k few A Y C (le_trans over (le_of_eq upper)))
