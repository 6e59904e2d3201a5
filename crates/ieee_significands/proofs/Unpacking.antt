-- The tests, the fields and the normalisation of `unpack`: what they give of a finite f64 is its value at full width (`fields`, `unpacked`). Assumes nothing.
use mathlib.Core.Path.{◌≡◌, refl, sym, ap, ◌∙◌, subst}
use mathlib.Core.Bool.{Bool, true, false, not, cond}
use Prim.Native.Nat.{ℕ, zero, suc, ◌+◌, ◌-◌, ◌*◌, ◌/◌, ◌%◌, ◌^◌, ◌≤◌, ◌<◌}
use native.Mathlib.Nat.{le_trans, le_of_eq, lt_of_lt_of_le, lt_of_le_of_lt, lt_irrefl, mul_assoc, mul_right_comm, mul-le-mul_right, mod-eq_of_lt, mul-mod_left, add_comm, zero-lt-suc}
use native.Mathlib.Omega.{arith}
use lib.Dec.{T, lit<, lit≤, leb, eqb, eqb_refl, T_not}
use lib.Pow.{pow-add, pow_pos, shl_lt}
use lib.Count.{count_leading_zeros, leading_top}
use lib.Ieee.{Float, nan, inf, fin, binary64, up, down, odd, fits, is_nan, of_fields, of_bits, to_bits}
use lib.Ieee.Bits.{of_bits-to_bits}
use lib.Ieee.Exact.{HasValue, odd_sign}
use lib.Ieee.Scale.{finite}
use Rattle.std.specs.Float.{float_is_finite}
use Rattle.ieee_significands.specs.Parts.{Normal, Unpacked, Fields}
use Rattle.ieee_significands.proofs.Rounding.{pow_lt_back}

-- ---- finite

pub finite_is : (x : Float) → float_is_finite x ≡ finite x
unfolding float_is_finite
finite_is nan = refl
finite_is (inf s) = refl
finite_is (fin s m e) = refl

pub finite_no_nan : (x : Float) → T (finite x) → T (not (is_nan x))
unfolding is_nan
finite_no_nan nan h = absurd h
finite_no_nan (inf s) h = absurd h
finite_no_nan (fin s m e) h = tt

-- ---- a number that is not 0, with its leading digit at 60

module _ (n : ℕ) (g : 0 < n) (h : n < 2 ^ 53) where
  abbrev zeros : ℕ
  zeros = count_leading_zeros 64 n

  -- j is the place of the leading digit
  at : (j : ℕ) × (zeros + suc j ≡ 64) × (2 ^ j ≤ n) × (n < 2 ^ suc j)
  at = leading_top 64 n g (lt_of_lt_of_le h (lit≤ tt))

  place : at.0 < 53
  place = pow_lt_back at.0 53 (lt_of_le_of_lt at.2 h)

  up_by : zeros - 3 + at.0 ≡ 60
  up_by = go zeros at.0 at.1 place
    where
      go : (l j : ℕ) → l + suc j ≡ 64 → j < 53 → l - 3 + j ≡ 60
      go l j e h = omega arith

  pub zeros_range : (11 ≤ zeros) × (zeros < 64)
  zeros_range = go zeros at.0 at.1 place
    where
      go : (l j : ℕ) → l + suc j ≡ 64 → j < 53 → (11 ≤ l) × (l < 64)
      go l j e h = (omega arith, omega arith)

  eight : 8 ≤ zeros - 3
  eight = go (zeros - 3) at.0 up_by place
    where
      go : (u j : ℕ) → u + j ≡ 60 → j < 53 → 8 ≤ u
      go u j e h = omega arith

  over : 2 ^ 60 ≤ n * 2 ^ (zeros - 3)
  over = le_trans (le_of_eq (ap (λ (x : ℕ). 2 ^ x) (sym up_by ∙ add_comm (zeros - 3) at.0) ∙ pow-add 2 at.0 (zeros - 3))) (mul-le-mul_right (2 ^ (zeros - 3)) at.2)

  under : n * 2 ^ (zeros - 3) < 2 ^ 61
  under = subst (λ (x : ℕ). n * 2 ^ (zeros - 3) < 2 ^ x) (go (zeros - 3) at.0 up_by) (shl_lt (suc at.0) (zeros - 3) at.3)
    where
      go : (u j : ℕ) → u + j ≡ 60 → suc j + u ≡ 61
      go u j e = omega arith

  exact : n * 2 ^ (zeros - 3) % 2 ^ 64 ≡ n * 2 ^ (zeros - 3)
  exact = mod-eq_of_lt (lt_of_lt_of_le under (lit≤ tt))

  some : 0 < n * 2 ^ (zeros - 3)
  some = lt_of_lt_of_le (pow_pos 60) over

  pub normal_pos : 0 < n * 2 ^ (zeros - 3) % 2 ^ 64
  normal_pos = subst (λ (x : ℕ). 0 < x) (sym exact) some

  even : n * 2 ^ (zeros - 3) % 2 ^ 8 ≡ 0
  even =
      ap (λ (x : ℕ). n * 2 ^ x % 2 ^ 8) (sym (join (zeros - 3) eight))
      ∙ ap (λ (x : ℕ). x % 2 ^ 8) (ap (λ (x : ℕ). n * x) (pow-add 2 (zeros - 3 - 8) 8) ∙ sym (mul_assoc n (2 ^ (zeros - 3 - 8)) (2 ^ 8)))
      ∙ mul-mod_left (n * 2 ^ (zeros - 3 - 8)) (2 ^ 8)
    where
      join : (u : ℕ) → 8 ≤ u → u - 8 + 8 ≡ u
      join u h = omega arith

  module _ (e : ℕ) (E : e < 2 ^ 11) where
    pub normal_value : n * 2 ^ (zeros - 3) % 2 ^ 64 * 2 ^ (e + 63 - (zeros - 3)) ≡ n * 2 ^ (e + 63)
    normal_value =
        ap (λ (x : ℕ). x * 2 ^ (e + 63 - (zeros - 3))) exact
        ∙ mul_assoc n (2 ^ (zeros - 3)) (2 ^ (e + 63 - (zeros - 3)))
        ∙ ap (λ (x : ℕ). n * x) (sym (pow-add 2 (zeros - 3) (e + 63 - (zeros - 3))) ∙ ap (λ (x : ℕ). 2 ^ x) (join e zeros zeros_range.1))
      where
        join : (e l : ℕ) → l < 64 → l - 3 + (e + 63 - (l - 3)) ≡ e + 63
        join e l h = omega arith

    pub normal_of_lem : Normal (n * 2 ^ (zeros - 3) % 2 ^ 64) (e + 63 - (zeros - 3))
    normal_of_lem =
        subst (λ (x : ℕ). Normal x (e + 63 - (zeros - 3))) (sym exact)
        (record {
          under = under;
          over = λ p. over;
          zero = λ p. absurd (lt_irrefl 0 (lt_of_lt_of_le some (le_of_eq p)));
          tail = even;
          small = small e (zeros - 3) E;
        })
      where
        small : (e u : ℕ) → e < 2 ^ 11 → e + 63 - u < 2 ^ 12
        small e u h = omega arith

pub normal_zero : Normal 0 0
normal_zero = record {
  under = lit< tt;
  over = λ p. absurd (lt_irrefl 0 p);
  zero = λ p. refl;
  tail = refl;
  small = lit< tt;
}

-- ---- the fields of a pattern

of_bits_is : (b : ℕ) → of_bits binary64 b ≡ of_fields binary64 (leb (2 ^ 63) b) (b % 2 ^ 63 / 2 ^ 52) (b % 2 ^ 52)
unfolding of_bits
of_bits_is b = refl

read_low : (s : Bool) (x t : ℕ) → x ≡ 0 → HasValue (of_fields binary64 s x t) s (t * 2 ^ 0) (2 ^ 1074)
unfolding of_fields
read_low s zero t e = odd_sign 53 s t 0 1074
read_low s (suc x) t e = absurd (no x e)
  where
    no : (x : ℕ) → suc x ≡ 0 → ⊥
    no x e = omega arith

at_top : (a b s : Bool) (v : Float) → T (finite (cond a (cond b (inf s) nan) v)) → T (not a)
at_top true true s v p = absurd p
at_top true false s v p = absurd p
at_top false b s v p = tt

past_top : (a : Bool) (u v : Float) → T (not a) → cond a u v ≡ v
past_top true u v n = absurd n
past_top false u v n = refl

not_ones : (s : Bool) (j t : ℕ) → T (finite (of_fields binary64 s (suc j) t)) → T (not (eqb (suc j) 2047))
unfolding of_fields
not_ones s j t p = at_top (eqb (suc j) 2047) (eqb t 0) s (odd 53 s (2 ^ 52 + t) j 1074) p

read_high : (s : Bool) (j t : ℕ) → T (finite (of_fields binary64 s (suc j) t)) → HasValue (of_fields binary64 s (suc j) t) s ((2 ^ 52 + t) * 2 ^ j) (2 ^ 1074)
unfolding of_fields
read_high s j t p =
    let v = odd 53 s (2 ^ 52 + t) j 1074 in
    let u = cond (eqb t 0) (inf s) nan in
    subst (λ (k : Float). HasValue k s ((2 ^ 52 + t) * 2 ^ j) (2 ^ 1074))
    (sym (past_top (eqb (suc j) 2047) u v (at_top (eqb (suc j) 2047) (eqb t 0) s v p))) (odd_sign 53 s (2 ^ 52 + t) j 1074)

-- in units of 2 ^ -1138
rescaled : (x : Float) (s : Bool) (a c k : ℕ) → HasValue x s a c → HasValue x s (a * k) (c * k)
rescaled nan s a c k v = v
rescaled (inf t) s a c k v = v
rescaled (fin t m e) s a c k v = (v.0, sym (mul_assoc (m * up e) c k) ∙ ap (λ (x : ℕ). x * k) v.1 ∙ mul_right_comm a (down e) k)

in_parts : (x : Float) (s : Bool) (m e : ℕ) → HasValue x s (m * 2 ^ e) (2 ^ 1074) → HasValue x s (m * 2 ^ (e + 64)) (2 ^ 1138)
in_parts x s m e v = subst (λ (n : ℕ). HasValue x s n (2 ^ 1138)) (mul_assoc m (2 ^ e) (2 ^ 64) ∙ ap (λ (n : ℕ). m * n) (sym (pow-add 2 e 64))) (rescaled x s (m * 2 ^ e) (2 ^ 1074) (2 ^ 64) v)

-- what `unpack` reads, of an x that the format holds and that is finite
module _ (x : Float) (F : T (fits binary64 x)) (p : T (finite x)) where
  abbrev b : ℕ
  b = to_bits binary64 x

  abbrev field : ℕ
  field = b % 2 ^ 63 / 2 ^ 52

  abbrev sign : Bool
  sign = leb (2 ^ 63) b

  is : of_fields binary64 sign field (b % 2 ^ 52) ≡ x
  is = sym (of_bits_is b) ∙ of_bits-to_bits binary64 x F

  low_value : field ≡ 0 → HasValue x sign (b % 2 ^ 52 * 2 ^ (0 + 64)) (2 ^ 1138)
  low_value e = in_parts x sign (b % 2 ^ 52) 0 (subst (λ (k : Float). HasValue k sign (b % 2 ^ 52 * 2 ^ 0) (2 ^ 1074)) is (read_low sign field (b % 2 ^ 52) e))

  abbrev Reads : ℕ → Type 0
  Reads f = (f < 2047) × HasValue x sign ((b % 2 ^ 52 + 2 ^ 52) * 2 ^ (f - 1 + 64)) (2 ^ 1138)

  high : (f : ℕ) → f < 2048 → (f ≡ 0 → ⊥) → of_fields binary64 sign f (b % 2 ^ 52) ≡ x → Reads f
  high zero l z e = absurd (z refl)
  high (suc j) l z e =
      let q : T (finite (of_fields binary64 sign (suc j) (b % 2 ^ 52))) = subst (λ (k : Float). T (finite k)) (sym e) p in (
        last (suc j) l (ne (suc j) (not_ones sign j (b % 2 ^ 52) q)),
        in_parts x sign (b % 2 ^ 52 + 2 ^ 52) (suc j - 1)
            (subst (λ (k : Float). HasValue k sign ((b % 2 ^ 52 + 2 ^ 52) * 2 ^ (suc j - 1)) (2 ^ 1074)) e
            (subst (λ (n : ℕ). HasValue (of_fields binary64 sign (suc j) (b % 2 ^ 52)) sign (n * 2 ^ (suc j - 1)) (2 ^ 1074)) (add_comm (2 ^ 52) (b % 2 ^ 52))
            (subst (λ (n : ℕ). HasValue (of_fields binary64 sign (suc j) (b % 2 ^ 52)) sign ((2 ^ 52 + b % 2 ^ 52) * 2 ^ n) (2 ^ 1074)) (pred j) (read_high sign j (b % 2 ^ 52) q)))),
      )
    where
      last : (f : ℕ) → f < 2048 → (f ≡ 2047 → ⊥) → f < 2047
      last f l n = omega arith

      ne : (f : ℕ) → T (not (eqb f 2047)) → f ≡ 2047 → ⊥
      ne f n e = T_not (eqb f 2047) n (subst (λ (k : ℕ). T (eqb f k)) e (eqb_refl f))

      pred : (j : ℕ) → j ≡ suc j - 1
      pred j = omega arith

  reads : (field ≡ 0 → ⊥) → Reads field
  reads z = high field (top b) z is
    where
      top : (b : ℕ) → b % 2 ^ 63 / 2 ^ 52 < 2048
      top b = omega arith

  pub fields : Fields x sign (b / 2 ^ 52 % 2 ^ 11) (b % 2 ^ 52)
  fields = subst (λ (e : ℕ). Fields x sign e (b % 2 ^ 52)) (same b) (record {
    field = top b;
    digits = rest b;
    low = low_value;
    high = λ g. subst (λ (n : ℕ). HasValue x sign ((b % 2 ^ 52 + 2 ^ 52) * 2 ^ n) (2 ^ 1138)) (place field g) (reads (some field g)).1;
  })
    where
      same : (b : ℕ) → b % 2 ^ 63 / 2 ^ 52 ≡ b / 2 ^ 52 % 2 ^ 11
      same b = omega arith

      top : (b : ℕ) → b % 2 ^ 63 / 2 ^ 52 < 2 ^ 11
      top b = omega arith

      rest : (b : ℕ) → b % 2 ^ 52 < 2 ^ 52
      rest b = omega arith

      some : (f : ℕ) → 0 < f → f ≡ 0 → ⊥
      some f g e = omega arith

      place : (f : ℕ) → 0 < f → f - 1 + 64 ≡ f + 63
      place f g = omega arith

-- ---- and of `unpack`

pub unpacked : (x : Float) (s u : Bool) (v m e : ℕ) → HasValue x s v (2 ^ 1138) → u ≡ s → m * 2 ^ e ≡ v → Normal m e → Unpacked x u m e
unpacked x s u v m e h p q n = record {
  value = subst (λ (t : Bool). HasValue x t (m * 2 ^ e) (2 ^ 1138)) (sym p) (subst (λ (k : ℕ). HasValue x s k (2 ^ 1138)) (sym q) h);
  normal = n;
}

-- a finite number has one sign
same_sign : (x : Float) (s t : Bool) (a b d : ℕ) → HasValue x s a d → HasValue x t b d → s ≡ t
same_sign nan s t a b d v w = absurd v
same_sign (inf k) s t a b d v w = absurd v
same_sign (fin k m e) s t a b d v w = sym v.0 ∙ w.0

pub fields_sign : (x : Float) (s t : Bool) (e f m n : ℕ) → Fields x s e f → Unpacked x t m n → s ≡ t
fields_sign x s t zero f m n F U = same_sign x s t (f * 2 ^ 64) (m * 2 ^ n) (2 ^ 1138) (F.low refl) U.value
fields_sign x s t (suc e) f m n F U = same_sign x s t ((f + 2 ^ 52) * 2 ^ (suc e + 63)) (m * 2 ^ n) (2 ^ 1138) (F.high (zero-lt-suc e)) U.value
