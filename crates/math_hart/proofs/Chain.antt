-- Fused steps on numbers taken apart, at an ordinary z: each leaves room for the next (`ready`), and their values are those of the fused steps (`stepped`). Assumes nothing.
use mathlib.Core.Path.{◌≡◌, sym, ap, ap₂, ◌∙◌, subst}
use mathlib.Core.Bool.{Bool, true, false, not, ◌&&◌}
use mathlib.Core.List.{List, [], ◌∷◌}
use Prim.Native.Nat.{ℕ, zero, suc, ◌+◌, ◌-◌, ◌*◌, ◌/◌, ◌%◌, ◌^◌, ◌≤◌, ◌<◌, max}
use native.Mathlib.Nat.{le_trans, le_of_eq, le_of_suc-le-suc, not-suc-le-zero}
use native.Mathlib.Omega.{arith}
use lib.Dec.{T, leb, leb→le, lit≤}
use lib.ListN.{length}
use lib.Ieee.Fits.{and_l, and_r}
use lib.Ieee.{Float, nan, inf, fin, binary64, lt, is_nan, of_bits}
use lib.Ieee.Bits.{to_bits-of_bits, nan_bits_is, nan_bits_above}
use borrow.Author.Tests.{le-ltb}
use Rattle.ieee.specs.Numbers as Numbers
use Rattle.ieee.specs.Fused.{fused_of}
use Rattle.ieee_chains.specs.Open.{value_of, field, Digits}
use Rattle.math_hart.specs.Sized.{Ordinary}
use Rattle.math_hart.proofs.Coefficients.{literal}

-- a number above 0 is a number
pub above_zero : (z : Float) → lt Numbers.zero z ≡ true → T (not (is_nan z))
unfolding lt is_nan of_bits
above_zero nan h = absurd (h' h)
  where
    h' : false ≡ true → ⊥
    h' e = subst (λ (b : Bool). T (not b)) e tt
above_zero (inf s) h = tt
above_zero (fin s m e) h = tt

-- ---- the coefficients: each is at least 2 ^ -5 and below 2 ^ 10

abbrev pub Coefficient : Float → Type 0
Coefficient c = T (not (is_nan c)) × (1018 ≤ field c) × (field c ≤ 1032)

pub coefficient : (n : ℕ) → 1018 ≤ n / 2 ^ 52 → n / 2 ^ 52 ≤ 1032 → Coefficient (of_bits binary64 n)
coefficient n l h =
    let k : T (not (is_nan (of_bits binary64 n))) = subst (λ (b : Bool). T (not b)) (sym (sym (nan_bits_is binary64 n) ∙ nan_bits_above binary64 n ∙ le-ltb (2047 * 2 ^ 52) (n % 2 ^ 63) (low n h))) tt in
    let e : field (of_bits binary64 n) ≡ n / 2 ^ 52 = ap (λ (b : ℕ). b / 2 ^ 52) (to_bits-of_bits binary64 n (small n h) k) in
    (k, le_trans l (le_of_eq (sym e)), le_trans (le_of_eq e) h)
  where
    low : (n : ℕ) → n / 2 ^ 52 ≤ 1032 → n % 2 ^ 63 ≤ 2047 * 2 ^ 52
    low n h = omega arith

    small : (n : ℕ) → n / 2 ^ 52 ≤ 1032 → n < 2 * 2 ^ 63
    small n h = omega arith

-- each of a list is one, where antt finds that each field is within the bounds
abbrev each_within : List ℕ → Bool
each_within [] = true
each_within (b ∷ bits) = each_within bits && (leb 1018 (b / 2 ^ 52) && leb (b / 2 ^ 52) 1032)

pub coefficients : (bits : List ℕ) → T (each_within bits) → (n : ℕ) → n < length bits → Coefficient (literal bits n)
coefficients [] h n l = absurd (not-suc-le-zero l)
coefficients (b ∷ bits) h zero l =
    let w = and_r (each_within bits) (leb 1018 (b / 2 ^ 52) && leb (b / 2 ^ 52) 1032) h in
    coefficient b (leb→le 1018 (b / 2 ^ 52) (and_l (leb 1018 (b / 2 ^ 52)) (leb (b / 2 ^ 52) 1032) w)) (leb→le (b / 2 ^ 52) 1032 (and_r (leb 1018 (b / 2 ^ 52)) (leb (b / 2 ^ 52) 1032) w))
coefficients (b ∷ bits) h (suc n) l = coefficients bits (and_l (each_within bits) (leb 1018 (b / 2 ^ 52) && leb (b / 2 ^ 52) 1032) h) n (le_of_suc-le-suc l)

-- ---- a number taken apart between the steps

-- after n steps, q * 2 ^ i is x
abbrev pub After : ℕ → ℕ → ℕ → Float → Type 0
After n q i x = (value_of q i ≡ x) × Digits q × (1017 ≤ i) × (i ≤ 1038 + 4 * n)

-- a coefficient is taken apart before the first
pub first : (c : Float) (q i : ℕ) → Coefficient c → (value_of q i ≡ c) × Digits q × (i + 1 ≡ field c) → After 0 q i c
first c q i C o = let r = go i (field c) o.2 C.1 C.2 in (o.0, o.1, r.0, r.1)
  where
    go : (i f : ℕ) → i + 1 ≡ f → 1018 ≤ f → f ≤ 1032 → (1017 ≤ i) × (i ≤ 1038 + 4 * 0)
    go i f e a b = (omega arith, omega arith)

pub coefficient_opens : (c : Float) → Coefficient c → T (not (is_nan c)) × (1 ≤ field c) × (field c ≤ 2046)
coefficient_opens c C = (C.0, le_trans (lit≤ tt) C.1, le_trans C.2 (lit≤ tt))

pub ordinary_opens : (z : Float) → Ordinary z → T (not (is_nan z)) × (1 ≤ field z) × (field z ≤ 2046)
ordinary_opens z C = (C.0, le_trans (lit≤ tt) C.1, le_trans C.2 (lit≤ tt))

-- y * 2 ^ j is z
module _ (z : Float) (y j : ℕ) (Z : Ordinary z) (o : (value_of y j ≡ z) × Digits y × (j + 1 ≡ field z)) where
  place : (1002 ≤ j) × (j ≤ 1024)
  place = go j (field z) o.2 Z.1 Z.2
    where
      go : (j f : ℕ) → j + 1 ≡ f → 1003 ≤ f → f ≤ 1025 → (1002 ≤ j) × (j ≤ 1024)
      go j f e a b = (omega arith, omega arith)

  module _ (n q i : ℕ) (x c : Float) (few : n ≤ 7) (A : After n q i x) (C : Coefficient c) where
    pub ready : Digits q × Digits y × (i ≤ 2000) × (j ≤ 2000) × T (not (is_nan c)) × (62 ≤ field c) × (field c ≤ 2000) × (field c + 1026 < i + j + 64) × (i + j < field c + 1090)
    ready = let r = go n i j (field c) few A.2 A.3 place.0 place.1 C.1 C.2 in (A.1, o.1, r.0, r.1, C.0, r.2, r.3, r.4, r.5)
      where
        go : (n i j f : ℕ) → n ≤ 7 → 1017 ≤ i → i ≤ 1038 + 4 * n → 1002 ≤ j → j ≤ 1024 → 1018 ≤ f → f ≤ 1032
            → (i ≤ 2000) × (j ≤ 2000) × (62 ≤ f) × (f ≤ 2000) × (f + 1026 < i + j + 64) × (i + j < f + 1090)
        go n i j f a b c d e g h = (omega arith, omega arith, omega arith, omega arith, omega arith, omega arith)

    pub stepped : (r k : ℕ) → (value_of r k ≡ fused_of (value_of q i) (value_of y j) c) × Digits r × (field c ≤ k + 1) × (k ≤ max (field c + 6) (i + j - 1020)) → After (suc n) r k (fused_of x z c)
    stepped r k s =
        let b = go n i j (field c) k A.3 place.1 C.1 C.2 s.2 s.3 in
        (s.0 ∙ ap₂ (λ (u v : Float). fused_of u v c) A.0 o.0, s.1, b.0, b.1)
      where
        go : (n i j f k : ℕ) → i ≤ 1038 + 4 * n → j ≤ 1024 → 1018 ≤ f → f ≤ 1032 → f ≤ k + 1 → k ≤ max (f + 6) (i + j - 1020) → (1017 ≤ k) × (k ≤ 1038 + 4 * suc n)
        go n i j f k a b c d e g = (omega arith, omega arith)

-- what is put together at the end
pub closes : (n q i : ℕ) (x : Float) → n ≤ 7 → After n q i x → Digits q × (i ≤ 2000)
closes n q i x few A = (A.1, go n i few A.3)
  where
    go : (n i : ℕ) → n ≤ 7 → i ≤ 1038 + 4 * n → i ≤ 2000
    go n i a b = omega arith
