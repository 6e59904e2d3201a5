-- Widths and shifts of numbers of 128 bits, as the functions of `ieee_words` compute them, and what of them the crates above cite. Assumes nothing.
use Rattle.std.proofs.Common.{subst, zero-mul, add-mul, mul_assoc, mul_comm, add_assoc, mod-lt, mul-lt-mul_of_pos_right, div-lt_iff_lt-mul, pow-add, ◌≡◌, ℕ, zero, suc, ◌+◌, ◌-◌, ◌*◌, ◌/◌, ◌%◌, ◌^◌, ◌<◌, ◌≤◌, min, Bool, true, false, not, T, leb, leb→le, sym, ap, ◌∙◌, ap₂, le_of_eq, le_trans, lt_of_lt_of_le, le-add_right, lt_of_le_of_lt, add_comm, mod-eq_of_lt, zero-lt-suc, mul-pos, div-add-mod', div-mul-le_self, div-le_self, sub-one, arith, lit<, pow_pos, pow_mono, shr-shr, w64, Fits}
use Rattle.std.specs.Int.{w128}
use native.Mathlib.Nat.{mul-add-mod_self_right, add-mul-div_right, div-eq_of_lt, pow-succ'}
use Rattle.std.proofs.Math.Dec.{nleb→lt}
use lib.Arith.{digits_lt}
use lib.Pow.{mod-pow-add, mod-mod-pow}
use lib.Count.{count_leading_zeros, leading_length, leading_le}
use Rattle.ieee_words.specs.Words.{jammed, Width}

-- ---- how many digits

pow_pred : (n : ℕ) → 0 < n → 2 ^ n ≡ 2 * 2 ^ (n - 1)
pow_pred zero h = omega arith
pow_pred (suc n) h = pow-succ' 2 n ∙ ap (λ (x : ℕ). 2 * 2 ^ x) (sym (sub-one (suc n)))

at_least : (a m : ℕ) → 2 ^ m ≤ 2 * a + 1 → 0 < m → 2 ^ (m - 1) ≤ a
at_least a m h p =
    let e : 2 ^ m ≡ 2 * 2 ^ (m - 1) = pow_pred m p in
    omega arith

pub zeros_fit : (a : ℕ) → Fits w64 (count_leading_zeros 64 a)
zeros_fit a = record { fits = lt_of_le_of_lt (leading_le 64 a) (lit< tt) }

pub width_of : (v : ℕ) → v < 2 ^ 128 → Width v (128 - count_leading_zeros 128 v)
width_of v h =
    let t = leading_length 128 v h in
    let n : 128 - count_leading_zeros 128 v ≡ t.0 = omega (arith, t.1) in
    rw n (record { under = t.2; over = at_least v t.0 t.3 })

-- ---- a shift to the right

-- what is left of n above the d digits that a shift drops
cut_is : (B n d : ℕ) → n < B → n / 2 ^ d * 2 ^ d % B ≡ n / 2 ^ d * 2 ^ d
cut_is B n d h = mod-eq_of_lt (lt_of_le_of_lt (div-mul-le_self n (2 ^ d)) h)

-- nothing is shifted out, or something is
none_out : (B n d : ℕ) → n < B → n / 2 ^ d * 2 ^ d % B ≡ n → n % 2 ^ d ≡ 0
none_out B n d h e = go (n / 2 ^ d * 2 ^ d) (n % 2 ^ d) (sym (cut_is B n d h) ∙ e) (div-add-mod' n (2 ^ d))
  where
    go : (a r : ℕ) → a ≡ n → a + r ≡ n → r ≡ 0
    go a r e k = omega arith

some_out : (B n d : ℕ) → n < B → (n / 2 ^ d * 2 ^ d % B ≡ n → ⊥) → 0 < n % 2 ^ d
some_out B n d h f = go (n / 2 ^ d * 2 ^ d) (n % 2 ^ d) (λ e. f (cut_is B n d h ∙ e)) (div-add-mod' n (2 ^ d))
  where
    go : (a r : ℕ) → (a ≡ n → ⊥) → a + r ≡ n → 0 < r
    go a r e k = omega arith

word : (v n : ℕ) → n ≡ v % 2 ^ 64 → n < 2 ^ 64
word v n e = omega arith

one_of : (a : ℕ) → 0 < a → min a 1 ≡ 1
one_of a h = omega arith

-- one digit less is shifted out: it becomes the sticky one
next_digit : (m d : ℕ) → 2 * (m / 2 ^ d / 2) + min (m / 2 ^ d % 2 + min (m % 2 ^ d) 1) 1 ≡ jammed m (d + 1)
next_digit m d =
    sym (ap₂ (λ (q r : ℕ). 2 * q + min r 1) (sym (shr-shr m d 1)) (ap (λ (n : ℕ). m % 2 ^ n) (add_comm d 1) ∙ mod-pow-add m 1 d)
    ∙ ap (λ (r : ℕ). 2 * (m / 2 ^ d / 2) + r) (go (m / 2 ^ d % 2) (m % 2 ^ d) (2 ^ d) (pow_pos d)))
  where
    go : (b r p : ℕ) → 0 < p → min (b * p + r) 1 ≡ min (b + min r 1) 1
    go zero r p h = omega arith
    go (suc b) r p h = one_of (suc b * p + r) (lt_of_lt_of_le (mul-pos (zero-lt-suc b) h) (le-add_right (suc b * p) r)) ∙ sym (one_of (suc b + min r 1) (omega arith))

-- all is shifted out
all_out : (m n j : ℕ) → m < 2 ^ n → n ≤ j → jammed m j ≡ min m 1
all_out m n j h l =
    let s : m < 2 ^ j = lt_of_lt_of_le h (pow_mono l) in
    ap₂ (λ (q r : ℕ). 2 * q + min r 1) (div-eq_of_lt s) (mod-eq_of_lt s) ∙ omega arith

-- a shift by 127 leaves one digit, the sticky one, and so does any further one
clipped : (v d k : ℕ) → v < 2 ^ 128 → k ≡ min d 127 → jammed v (k + 1) ≡ jammed v (d + 1)
clipped v d k h e = go (leb d 127) (leb→le d 127) (nleb→lt d 127)
  where
    go : (b : Bool) → (T b → d ≤ 127) → (T (not b) → 127 < d) → jammed v (k + 1) ≡ jammed v (d + 1)
    go true f g = let l = f tt in ap (λ (n : ℕ). jammed v (n + 1)) (omega arith)
    go false f g = let l = g tt in all_out v 128 (k + 1) h (omega arith) ∙ sym (all_out v 128 (d + 1) h (omega arith))

-- a shift by less than a word, word by word. p * u is B, the weight of the upper word: p is 2 ^ d and u is 2 ^ (64 - d)
module _ (p u B hi lo : ℕ) (P : 0 < p) (e : u * p ≡ B) (L : lo < B) where
  near_split : hi * u % B ≡ hi % p * u
  near_split =
      ap (λ (x : ℕ). x % B) (ap (λ (x : ℕ). x * u) (sym (div-add-mod' hi p)) ∙ add-mul (hi / p * p) (hi % p) u ∙ ap (λ (x : ℕ). x + hi % p * u) (mul_assoc (hi / p) p u ∙ ap (λ (x : ℕ). hi / p * x) (mul_comm p u ∙ e)))
      ∙ mul-add-mod_self_right (hi / p) B (hi % p * u)
      ∙ mod-eq_of_lt (subst (λ (x : ℕ). hi % p * u < x) (mul_comm p u ∙ e) (mul-lt-mul_of_pos_right (mod-lt hi P) (pos_u u p B e lo L)))
    where
      pos_u : (u p B : ℕ) → u * p ≡ B → (lo : ℕ) → lo < B → 0 < u
      pos_u zero p B e lo L = absurd (not_lt_zero lo (subst (λ (x : ℕ). lo < x) (sym e ∙ zero-mul p) L))
        where
          not_lt_zero : (n : ℕ) → n < 0 → ⊥
          not_lt_zero n h = omega arith
      pos_u (suc u) p B e lo L = zero-lt-suc u

  near_low : hi * u % B + lo / p < B
  near_low =
      subst (λ (x : ℕ). x + lo / p < B) (sym near_split)
      (subst (λ (x : ℕ). hi % p * u + lo / p < x) (mul_comm p u ∙ e) (digits_lt (mod-lt hi P) ((div-lt_iff_lt-mul P).1 (subst (λ (x : ℕ). lo < x) (sym e) L))))

  near_quotient : (hi * B + lo) / p ≡ hi / p * B + (hi * u % B + lo / p)
  near_quotient =
      ap (λ (x : ℕ). (hi * x + lo) / p) (sym e)
      ∙ ap (λ (x : ℕ). x / p) (add_comm (hi * (u * p)) lo ∙ ap (λ (x : ℕ). lo + x) (sym (mul_assoc hi u p)))
      ∙ add-mul-div_right lo (hi * u) P
      ∙ add_comm (lo / p) (hi * u)
      ∙ ap (λ (x : ℕ). x + lo / p) whole
      ∙ add_assoc (hi / p * B) (hi * u % B) (lo / p)
    where
      whole : hi * u ≡ hi / p * B + hi * u % B
      whole =
          ap (λ (x : ℕ). x * u) (sym (div-add-mod' hi p)) ∙ add-mul (hi / p * p) (hi % p) u
          ∙ ap (λ (x : ℕ). x + hi % p * u) (mul_assoc (hi / p) p u ∙ ap (λ (x : ℕ). hi / p * x) (mul_comm p u ∙ e))
          ∙ ap (λ (x : ℕ). hi / p * B + x) (sym near_split)

weight : (d : ℕ) → d < 64 → 2 ^ (64 - d) * 2 ^ d ≡ 2 ^ 64
weight d h = sym (pow-add 2 (64 - d) d) ∙ ap (λ (x : ℕ). 2 ^ x) (join d h)
  where
    join : (d : ℕ) → d < 64 → 64 - d + d ≡ 64
    join d h = omega arith

-- the digits of the upper word that come down, shifted in two steps
down_is : (h d : ℕ) → d < 64 → h * 2 % 2 ^ 64 * 2 ^ (63 - d) % 2 ^ 64 ≡ h * 2 ^ (64 - d) % 2 ^ 64
down_is h d l = mod_times (h * 2) (2 ^ (63 - d)) (2 ^ 64) ∙ ap (λ (x : ℕ). x % 2 ^ 64) (mul_assoc h 2 (2 ^ (63 - d)) ∙ ap (λ (x : ℕ). h * x) (sym (pow-succ' 2 (63 - d)) ∙ ap (λ (x : ℕ). 2 ^ x) (up d l)))
  where
    up : (d : ℕ) → d < 64 → suc (63 - d) ≡ 64 - d
    up d h = omega arith

    mod_times : (n u B : ℕ) → n % B * u % B ≡ n * u % B
    mod_times n u B = sym (ap (λ (x : ℕ). x * u % B) (sym (div-add-mod' n B)) ∙ ap (λ (x : ℕ). x % B) (regroup (n / B) (n % B)) ∙ mul-add-mod_self_right (n / B * u) B (n % B * u))
      where
        regroup : (q r : ℕ) → (q * B + r) * u ≡ q * u * B + r * u
        regroup q r = omega arith

pub near_fits : (h l d : ℕ) → l < 2 ^ 64 → d < 64 → Fits w64 (h * 2 % 2 ^ 64 * 2 ^ (63 - d) % 2 ^ 64 + l / 2 ^ d)
near_fits h l d L D = record { fits = subst (λ (x : ℕ). x + l / 2 ^ d < 2 ^ 64) (sym (down_is h d D)) (near_low (2 ^ d) (2 ^ (64 - d)) (2 ^ 64) h l (pow_pos d) (weight d D) L) }

pub near_is : (v h l d : ℕ) → h ≡ v / 2 ^ 64 → l ≡ v % 2 ^ 64 → d < 64 → h / 2 ^ d * 2 ^ 64 + (h * 2 % 2 ^ 64 * 2 ^ (63 - d) % 2 ^ 64 + l / 2 ^ d) ≡ v / 2 ^ d
near_is v h l d H L D =
    ap (λ (x : ℕ). h / 2 ^ d * 2 ^ 64 + (x + l / 2 ^ d)) (down_is h d D)
    ∙ sym (near_quotient (2 ^ d) (2 ^ (64 - d)) (2 ^ 64) h l (pow_pos d) (weight d D) (word v l L))
    ∙ ap (λ (x : ℕ). x / 2 ^ d) (ap₂ (λ (x y : ℕ). x * 2 ^ 64 + y) H L ∙ div-add-mod' v (2 ^ 64))

-- what a shift by less than a word loses is of the lower word
pub lost_is : (v n d : ℕ) → n ≡ v % 2 ^ 64 → d < 64 → n - n / 2 ^ d * 2 ^ d % 2 ^ 64 ≡ v % 2 ^ d
lost_is v n d e h =
    go (n / 2 ^ d * 2 ^ d % 2 ^ 64) (n / 2 ^ d * 2 ^ d) (n % 2 ^ d) (cut_is (2 ^ 64) n d (word v n e)) (div-add-mod' n (2 ^ d))
    ∙ ap (λ (x : ℕ). x % 2 ^ d) (e ∙ ap (λ (k : ℕ). v % 2 ^ k) (sym (join d h))) ∙ mod-mod-pow v (64 - d) d
  where
    go : (a b r : ℕ) → a ≡ b → b + r ≡ n → n - a ≡ r
    go a b r e k = omega arith

    join : (d : ℕ) → d < 64 → 64 - d + d ≡ 64
    join d h = omega arith

pub cut_le : (n d : ℕ) → n < 2 ^ 64 → n / 2 ^ d * 2 ^ d % 2 ^ 64 ≤ n
cut_le n d h = le_trans (le_of_eq (cut_is (2 ^ 64) n d h)) (div-mul-le_self n (2 ^ d))

pub shifted_fits : (v d n : ℕ) → v < 2 ^ 128 → n ≡ v / 2 ^ d → Fits w128 n
shifted_fits v d n h e = record { fits = lt_of_le_of_lt (le_trans (le_of_eq e) (div-le_self v (2 ^ d))) h }

pub jam_near : (v d n s r : ℕ) → n ≡ v / 2 ^ d → s ≡ v % 2 ^ d → r ≡ 2 * (n / 2) + min (n % 2 + min s 1) 1 → r ≡ jammed v (d + 1)
jam_near v d n s r p e q = q ∙ ap₂ (λ (x y : ℕ). 2 * (x / 2) + min (x % 2 + min y 1) 1) p e ∙ next_digit v d

pub jam_far : (v d k a s r : ℕ) → v < 2 ^ 128 → k ≡ min d 127 → 64 ≤ d → 2 * a + s ≡ jammed v (64 + (k - 64)) → s ≤ 1 → r ≡ 2 * (a / 2) + min (a % 2 + min s 1) 1 → r ≡ jammed v (d + 1)
jam_far v d k a s r h K l e one q =
    q ∙ go (v / 2 ^ k) (v % 2 ^ k) (e ∙ ap (jammed v) (join k (omega arith))) ∙ next_digit v k ∙ clipped v d k h K
  where
    join : (k : ℕ) → 64 ≤ k → 64 + (k - 64) ≡ k
    join k h = omega arith

    go : (n t : ℕ) → 2 * a + s ≡ 2 * n + min t 1 → 2 * (a / 2) + min (a % 2 + min s 1) 1 ≡ 2 * (n / 2) + min (n % 2 + min t 1) 1
    go n t e = let p : a ≡ n = omega arith in let m : min s 1 ≡ min t 1 = omega arith in ap₂ (λ (x y : ℕ). 2 * (x / 2) + min (x % 2 + y) 1) p m

-- ---- a shift by a word and more

-- what is shifted out is of the upper word, u, or all of the lower one
below_is : (v d s : ℕ) → s ≡ min (v / 2 ^ 64 % 2 ^ d * 2 ^ 64 + v % 2 ^ 64) 1 → 2 * (v / 2 ^ 64 / 2 ^ d) + s ≡ jammed v (64 + d)
below_is v d s e =
    ap₂ (λ (q r : ℕ). 2 * q + r) (shr-shr v 64 d) (e ∙ ap (λ (r : ℕ). min r 1) (sym (mod-pow-add v d 64) ∙ ap (λ (n : ℕ). v % 2 ^ n) (add_comm d 64)))

pub below_none : (v d u s : ℕ) → u ≡ v / 2 ^ 64 → u < 2 ^ 64 → u / 2 ^ d * 2 ^ d % 2 ^ 64 ≡ u → s ≡ min (v % 2 ^ 64) 1 → 2 * (u / 2 ^ d) + s ≡ jammed v (64 + d)
below_none v d u s U h t e = rw U (below_is v d s (go (v / 2 ^ 64 % 2 ^ d) (v % 2 ^ 64) (ap (λ (x : ℕ). x % 2 ^ d) (sym U) ∙ none_out (2 ^ 64) u d h t) e))
  where
    go : (q r : ℕ) → q ≡ 0 → s ≡ min r 1 → s ≡ min (q * 2 ^ 64 + r) 1
    go q r a b = omega arith

pub below_some : (v d u : ℕ) → u ≡ v / 2 ^ 64 → u < 2 ^ 64 → (u / 2 ^ d * 2 ^ d % 2 ^ 64 ≡ u → ⊥) → 2 * (u / 2 ^ d) + 1 ≡ jammed v (64 + d)
below_some v d u U h f = rw U (below_is v d 1 (go (v / 2 ^ 64 % 2 ^ d) (v % 2 ^ 64) (lt_of_lt_of_le (some_out (2 ^ 64) u d h f) (le_of_eq (ap (λ (x : ℕ). x % 2 ^ d) U)))))
  where
    go : (q r : ℕ) → 0 < q → 1 ≡ min (q * 2 ^ 64 + r) 1
    go q r k = omega arith

-- what an even number is shifted by further
pub half_jammed : (m d : ℕ) → m % 2 ≡ 0 → jammed m (d + 1) ≡ jammed (m / 2) d
half_jammed m d e =
    ap₂ (λ (q r : ℕ). 2 * q + min r 1) (ap (λ (n : ℕ). m / 2 ^ n) (add_comm d 1) ∙ sym (shr-shr m 1 d)) (mod-pow-add m d 1 ∙ ap (λ (x : ℕ). m / 2 % 2 ^ d * 2 + x) e)
    ∙ ap (λ (x : ℕ). 2 * (m / 2 / 2 ^ d) + x) (go (m / 2 % 2 ^ d))
  where
    go : (r : ℕ) → min (r * 2 + 0) 1 ≡ min r 1
    go r = omega arith
