-- A draw is exactly its number, (sum - 6 × 2^32)/2^32: neither the difference nor the quotient is rounded, in the definition or in the code. Assumes nothing.
use mathlib.Core.Path.{◌≡◌, refl, sym, ap, ◌∙◌, subst}
use mathlib.Core.Logic.{inl, inr}
use mathlib.Core.Bool.{Bool, true, false, cond, ◌&&◌, ◌||◌, true≢false}
use Prim.Native.Nat.{ℕ, ◌+◌, ◌-◌, ◌*◌, ◌^◌, ◌≤◌, ◌<◌}
use native.Mathlib.Omega.{arith}
use native.Mathlib.Nat.{mul-one, mul_assoc, mul_comm, add-mul, eq-or-lt_of_le, lt_of_lt_of_le, mul-lt-mul_of_pos_right, mul-le-mul_right, mul-pos}
use borrow.Author.Tests.{lt-ltb, le-ltb, ltb-true, ltb-false, eq-eqb}
use lib.Dec.{T, ltb, eqb, lit<, lit≤, lt→ltb, le→leb}
use lib.Pow.{pow-add, pow_mono, shl_lt}
use lib.IntN.{pos}
use lib.Ieee.{Float, nan, inf, fin, binary64, unlike, up, down, round, sum, add, sub, neg, div, lt, le, eq, of_int, of_bits, in_float}
use lib.Ieee.Exact.{HasValue, round_exact}
use lib.Ieee.Fits.{down_pos}
use lib.Ieee.Scale.{round_same, finite}
use Rattle.ieee.specs.Numbers as Numbers
use Rattle.ieee.specs.Decimal.{decimal}
use Rattle.math_elementary.proofs.AtMost.{or_l, or_r}
use Rattle.draws.specs.Draws.{quotient_of, Exactly}

-- 6 × 2^32, and how far a sum is from it
abbrev pub six : ℕ
six = 6 * 2 ^ 32

-- ---- k/2^j is an f64, for a k of at most 53 digits
narrow : (k j : ℕ) → k < 2 ^ 53 → k * 2 ^ j < 2 ^ (53 + j)
narrow k j h = shl_lt 53 j h

whole_exact : (s : Bool) (k : ℕ) → k < 2 ^ 53 → HasValue (round binary64 s k 1) s k 1
whole_exact s k h = round_exact binary64 s k 1 k 1074 (lit< tt) h (lt_of_lt_of_le (narrow k 1074 h) (pow_mono {i = 53 + 1074} {j = 1074 + 1024} (lit≤ tt))) (sym (mul-one (k * 2 ^ 1074)))

pub quotient_exact : (s : Bool) (k : ℕ) → k < 2 ^ 53 → HasValue (round binary64 s k (2 ^ 32)) s k (2 ^ 32)
quotient_exact s k h =
    round_exact binary64 s k (2 ^ 32) k 1042 (lit< tt) h (lt_of_lt_of_le (narrow k 1042 h) (pow_mono {i = 53 + 1042} {j = 1074 + 1024} (lit≤ tt)))
    (ap (λ (z : ℕ). k * z) (pow-add 2 1042 32) ∙ sym (mul_assoc k (2 ^ 1042) (2 ^ 32)))

-- ---- the code's division of a whole number by 2^32
unit_pos : T (ltb 0 (1 * 2 ^ 32)) → 0 < 1 * 2 ^ 32
unit_pos h = lit< h

divided : (x : Float) (s : Bool) (k : ℕ) → HasValue x s k 1 → div binary64 x (fin false 1 (pos 32)) ≡ round binary64 s k (2 ^ 32)
unfolding div
divided nan s k v = absurd v
divided (inf t) s k v = absurd v
divided (fin t m e) s k v =
    ap (λ (b : Bool). round binary64 b (m * up e * 1) (1 * 2 ^ 32 * down e)) (like t ∙ v.0)
    ∙ round_same binary64 s (m * up e * 1) (1 * 2 ^ 32 * down e) k (2 ^ 32) (mul-pos (unit_pos tt) (down_pos e)) (lit< tt) (ap (λ (z : ℕ). z * 2 ^ 32) v.1 ∙ mul_assoc k (down e) (2 ^ 32) ∙ ap (λ (z : ℕ). k * z) (mul_comm (down e) (2 ^ 32)))
  where
    like : (t : Bool) → unlike t false ≡ t
    like true = refl
    like false = refl

-- ---- the code's difference of a whole number and 6 × 2^32
apart : (a k d b : ℕ) → b ≡ a + k → b * d - a * d ≡ k * d
apart a k d b e = rw (e, add-mul) (omega arith)

taken : (x : Float) (s : ℕ) → HasValue x false s 1 → sub binary64 x (fin false 3 (pos 33)) ≡ cond (ltb s six) (round binary64 true (six - s) 1) (round binary64 false (s - six) 1)
unfolding sub add neg sum
taken nan s v = absurd v
taken (inf t) s v = absurd v
taken (fin true m e) s v = let z : true ≡ false = v.0 in absurd (true≢false z)
taken (fin false m e) s v = go (ltb s six) refl
  where
    d : ℕ
    d = down e

    go : (t : Bool) → ltb s six ≡ t → cond (ltb (m * up e * 1) (3 * 2 ^ 33 * down e)) (round binary64 true (3 * 2 ^ 33 * down e - m * up e * 1) (down e * 1)) (round binary64 false (m * up e * 1 - 3 * 2 ^ 33 * down e) (down e * 1)) ≡ cond t (round binary64 true (six - s) 1) (round binary64 false (s - six) 1)
    go true h =
        let l : s < six = ltb-true s six h in
        let k : six ≡ s + (six - s) = omega (arith, l) in
        rw (v.1, lt-ltb (s * down e) (3 * 2 ^ 33 * down e) (mul-lt-mul_of_pos_right l (down_pos e)), mul-one (down e))
        (round_same binary64 true (3 * 2 ^ 33 * down e - s * down e) (down e) (six - s) 1 (down_pos e) (lit< tt) (mul-one (3 * 2 ^ 33 * down e - s * down e) ∙ apart s (six - s) (down e) six k))
    go false h =
        let l : six ≤ s = ltb-false s six h in
        let k : s ≡ six + (s - six) = omega (arith, l) in
        rw (v.1, le-ltb (s * down e) (3 * 2 ^ 33 * down e) (mul-le-mul_right (down e) l), mul-one (down e))
        (round_same binary64 false (s * down e - 3 * 2 ^ 33 * down e) (down e) (s - six) 1 (down_pos e) (lit< tt) (mul-one (s * down e - 3 * 2 ^ 33 * down e) ∙ apart six (s - six) (down e) s k))

-- ---- the code's draw: the two numbers that it names, and each operation on a sum below 12 × 2^32
six_is : of_bits binary64 4762556605944299520 ≡ fin false 3 (pos 33)
unfolding of_bits
six_is = refl

unit_is : of_bits binary64 4751297606875873280 ≡ fin false 1 (pos 32)
unfolding of_bits
unit_is = refl

pub drawn : (s : ℕ) → s < 12 * 2 ^ 32 → div binary64 (sub binary64 (of_int binary64 (pos s)) (of_bits binary64 4762556605944299520)) (of_bits binary64 4751297606875873280) ≡ quotient_of s
unfolding of_int quotient_of
drawn s h = rw (six_is, unit_is, taken (round binary64 false s 1) s (whole_exact false s (omega (arith, h)))) (go (ltb s six) refl)
  where
    go : (t : Bool) → ltb s six ≡ t → div binary64 (cond t (round binary64 true (six - s) 1) (round binary64 false (s - six) 1)) (fin false 1 (pos 32)) ≡ cond t (round binary64 true (six - s) (2 ^ 32)) (round binary64 false (s - six) (2 ^ 32))
    go true k = divided (round binary64 true (six - s) 1) true (six - s) (whole_exact true (six - s) (omega arith))
    go false k = divided (round binary64 false (s - six) 1) false (s - six) (whole_exact false (s - six) (omega (arith, h)))

-- a sum is a whole number that an f64 counts without a gap
pub counted : (s : ℕ) → s < 12 * 2 ^ 32 → T (in_float binary64 (pos s))
unfolding in_float
counted s h = le→leb s (2 ^ 53) (omega (arith, h))

-- ---- the definition's draw: exact, at least -6 and below 6, finite, and never -0
pub exactly : (s : ℕ) → s < 12 * 2 ^ 32 → Exactly (quotient_of s) s
unfolding quotient_of
exactly s h = record {
  below = λ l. rw (lt-ltb s six l) (quotient_exact true (six - s) (omega arith));
  from = λ l. rw (le-ltb s six l) (quotient_exact false (s - six) (omega (arith, h)));
}

-- a number a/2^32 in size beside 6, both over the number's own power of two
within_six : (m a d : ℕ) → m * 2 ^ 32 ≡ a * d → a ≤ six → m * 1 ≤ 3 * 2 ^ 1 * d
within_six m a d e h = let k = mul-le-mul_right d h in omega (arith, e, k)

under_six : (m a d : ℕ) → 0 < d → m * 2 ^ 32 ≡ a * d → a < six → m * 1 < 3 * 2 ^ 1 * d
under_six m a d p e h = let k = mul-lt-mul_of_pos_right h p in omega (arith, e, k)

level_back : (a b : ℕ) → b ≤ a → T (ltb b a || (eqb a b && true))
level_back a b h = elim (eq-or-lt_of_le h) [ inl p ↦ or_r (ltb b a) (eqb a b && true) (rw (eq-eqb a b (sym p)) tt) | inr q ↦ or_l (ltb b a) (eqb a b && true) (lt→ltb b a q) ]

at_least : (x : Float) (t : Bool) (a : ℕ) → HasValue x t a (2 ^ 32) → a ≤ six → T (le (fin true 3 (pos 1)) x)
unfolding le lt eq
at_least nan t a v h = absurd v
at_least (inf u) t a v h = absurd v
at_least (fin true m e) t a v h = level_back (3 * 2 ^ 1 * down e) (m * up e * 1) (within_six (m * up e) a (down e) v.1 h)
at_least (fin false m e) t a v h = or_l (ltb 0 (3 * 2 ^ 1 * down e + m * up e * 1)) _ (lt→ltb 0 (3 * 2 ^ 1 * down e + m * up e * 1) (omega (arith, down_pos e)))

below_six : (x : Float) (t : Bool) (a : ℕ) → HasValue x t a (2 ^ 32) → (t ≡ false → a < six) → T (lt x (fin false 3 (pos 1)))
unfolding lt
below_six nan t a v h = absurd v
below_six (inf u) t a v h = absurd v
below_six (fin true m e) t a v h = lt→ltb 0 (m * up e * 1 + 3 * 2 ^ 1 * down e) (omega (arith, down_pos e))
below_six (fin false m e) t a v h = lt→ltb (m * up e * 1) (3 * 2 ^ 1 * down e) (under_six (m * up e) a (down e) (down_pos e) v.1 (h (sym v.0)))

finite_of : (x : Float) (t : Bool) (a c : ℕ) → HasValue x t a c → finite x ≡ true
finite_of nan t a c v = absurd v
finite_of (inf u) t a c v = absurd v
finite_of (fin u m e) t a c v = refl

-- what holds of a draw below 0 and of one from 0 on holds of every draw
either : (P : Float → Type 0) (s : ℕ) → s < 12 * 2 ^ 32 → ((d : Float) (a : ℕ) → HasValue d true a (2 ^ 32) → 0 < a → a ≤ six → P d) → ((d : Float) (a : ℕ) → HasValue d false a (2 ^ 32) → a < six → P d) → P (quotient_of s)
either P s h negative positive = go (ltb s six) refl
  where
    go : (t : Bool) → ltb s six ≡ t → P (quotient_of s)
    go true e = let l = ltb-true s six e in negative (quotient_of s) (six - s) ((exactly s h).below l) (omega (arith, l)) (omega arith)
    go false e = let l = ltb-false s six e in positive (quotient_of s) (s - six) ((exactly s h).from l) (omega (arith, l, h))

pub draw_at_least : (s : ℕ) → s < 12 * 2 ^ 32 → T (le (neg (decimal 6 0)) (quotient_of s))
unfolding neg decimal
draw_at_least s h = either (λ (d : Float). T (le (fin true 3 (pos 1)) d)) s h (λ d a v p l. at_least d true a v l) (λ d a v l. at_least d false a v (omega (arith, l)))

pub draw_below : (s : ℕ) → s < 12 * 2 ^ 32 → T (lt (quotient_of s) (decimal 6 0))
unfolding decimal
draw_below s h = either (λ (d : Float). T (lt d (fin false 3 (pos 1)))) s h (λ d a v p l. below_six d true a v (λ e. absurd (true≢false e))) (λ d a v l. below_six d false a v (λ e. l))

pub draw_finite : (s : ℕ) → s < 12 * 2 ^ 32 → finite (quotient_of s) ≡ true
draw_finite s h = either (λ (d : Float). finite d ≡ true) s h (λ d a v p l. finite_of d true a (2 ^ 32) v) (λ d a v l. finite_of d false a (2 ^ 32) v)

-- -0 has the sign of a number below 0, and the size 0
not_zero : (d : Float) (a : ℕ) → HasValue d true a (2 ^ 32) → 0 < a → d ≡ fin true 0 (pos 0) → ⊥
not_zero d a v p e = let w : HasValue (fin true 0 (pos 0)) true a (2 ^ 32) = subst (λ (x : Float). HasValue x true a (2 ^ 32)) e v in let k : 0 ≡ a * 1 = w.1 in omega (arith, k, p)

not_below : (d : Float) (a : ℕ) → HasValue d false a (2 ^ 32) → d ≡ fin true 0 (pos 0) → ⊥
not_below d a v e = let w : HasValue (fin true 0 (pos 0)) false a (2 ^ 32) = subst (λ (x : Float). HasValue x false a (2 ^ 32)) e v in true≢false w.0

pub draw_no_minus_zero : (s : ℕ) → s < 12 * 2 ^ 32 → quotient_of s ≡ neg Numbers.zero → ⊥
unfolding neg of_bits
draw_no_minus_zero s h = either (λ (d : Float). d ≡ fin true 0 (pos 0) → ⊥) s h (λ d a v p l. not_zero d a v p) (λ d a v l. not_below d a v)
