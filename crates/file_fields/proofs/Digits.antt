-- The digits that the kit writes are those of document 01.
use mathlib.Core.Path.{◌≡◌, refl, sym, ◌∙◌, ap}
use mathlib.Core.Bool.{Bool, true, false}
use mathlib.Core.List.{[], ◌∷◌, ◌++◌, append_assoc, append-nil}
use Prim.Native.Nat.{ℕ, zero, suc, ◌+◌, ◌-◌, ◌*◌, ◌/◌, ◌%◌, ◌^◌, ◌≤◌, ◌<◌}
use native.Mathlib.Nat.{pow-suc, mod-lt, mod-eq_of_lt, add-zero, add-suc, mul_comm, div-one, div-div-eq-div-mul, div-lt_iff_lt-mul, le-div_iff_mul-le, pow-le-pow_right}
use native.Mathlib.Omega.{arith}
use borrow.Author.Tests.{lt-ltb, le-ltb, ltb-true, ltb-false}
use lib.Dec.{ltb}
use Rattle.io.specs.Digits.{last_digits, hex_digit_ascii, IsDigitCount}
use Rattle.file_fields.specs.Fields.{decimal_in, hex_in}

-- a number below b ^ most has at most so many digits
pub few : (b least most n r : ℕ) → 0 < b → least ≤ most → n < b ^ most → IsDigitCount b least n r → r ≤ most
few b least most n r p h k f = by_test (ltb most r) refl
  where
    by_test : (t : Bool) → ltb most r ≡ t → r ≤ most
    by_test false e = ltb-false most r e
    by_test true e =
        let m : most < r = ltb-true most r e in
        let q : b ^ (r - 1) ≤ n = f.2 (omega arith) in
        let w : b ^ most ≤ b ^ (r - 1) = pow-le-pow_right p (omega arith) in
        omega arith

glyph_is : (n : ℕ) → hex_digit_ascii (n % 10) ≡ 48 + n % 10
glyph_is n = rw (lt-ltb (n % 10) 10 (mod-lt n (omega arith)))

rest : (r : ℕ) {m : ℕ} → 10 ^ r ≤ m → 1 < suc r → 10 ^ r ≤ m
rest r h k = h

decimal_from : (r k n : ℕ) → suc r ≤ k → n < 10 ^ suc r → (1 < suc r → 10 ^ r ≤ n) → last_digits 10 (suc r) n ≡ decimal_in k n
unfolding decimal_in
decimal_from r zero n h p q = absurd (let z : ⊥ = omega arith in z)
decimal_from zero (suc k) n h p q =
    let e : 10 ^ 1 ≡ 10 = refl in
    let s : n < 10 = omega (arith, p, e) in
    rw (lt-ltb n 10 s, glyph_is)
decimal_from (suc r) (suc k) n h p q =
    let e : 10 ^ suc r ≡ 10 ^ r * 10 = pow-suc 10 r in
    let f : 10 ^ suc (suc r) ≡ 10 ^ suc r * 10 = pow-suc 10 (suc r) in
    let m : 10 ^ r * 10 ≤ n = rw e at (q (omega arith)) in
    let one : 10 ^ 0 ≤ 10 ^ r = pow-le-pow_right (omega arith) {i = 0} {j = r} (omega arith) in
    let s : 10 ≤ n = omega (arith, m, one) in
    let less : n / 10 < 10 ^ suc r = (div-lt_iff_lt-mul {k = 10} {x = n} {y = 10 ^ suc r} (omega arith)).1 (rw f at p) in
    let more : 10 ^ r ≤ n / 10 = (le-div_iff_mul-le {k = 10} {x = 10 ^ r} {y = n} (omega arith)).1 m in
    rw (le-ltb n 10 s, glyph_is n, decimal_from r k (n / 10) (omega arith) less (rest r more))

pub decimal_is : (r n : ℕ) → r ≤ 20 → IsDigitCount 10 1 n r → last_digits 10 r n ≡ decimal_in 20 n
decimal_is zero n h f = absurd (let z : ⊥ = omega (arith, f.0) in z)
decimal_is (suc r) n h f = decimal_from r 20 n h f.1 (λ w. let z : suc r - 1 ≡ r = omega arith in rw z at (f.2 w))

-- ---- numbers of one, two and three digits
last_digit : (k n : ℕ) → n < 10 → decimal_in (suc k) n ≡ (48 + n) ∷ []
unfolding decimal_in
last_digit k n h = rw (lt-ltb n 10 h, mod-eq_of_lt h)

one_more : (k n : ℕ) → 10 ≤ n → decimal_in (suc k) n ≡ decimal_in k (n / 10) ++ (48 + n % 10) ∷ []
unfolding decimal_in
one_more k n h = rw (le-ltb n 10 h)

pub one_digit : (n x : ℕ) → n < 10 → x ≡ 48 + n → x ∷ [] ≡ decimal_in 20 n
one_digit n x h e = rw e (sym (last_digit 19 n h))

pub two_digits : (n x y : ℕ) → 10 ≤ n → n < 100 → x ≡ 48 + n / 10 → y ≡ 48 + n % 10 → x ∷ y ∷ [] ≡ decimal_in 20 n
two_digits n x y l h e f = rw (e, f) (sym (one_more 19 n l ∙ rw (last_digit 18 (n / 10) (omega arith))))

pub three_digits : (n x y z : ℕ) → 100 ≤ n → n < 1000 → x ≡ 48 + n / 100 → y ≡ 48 + n / 10 % 10 → z ≡ 48 + n % 10 → x ∷ y ∷ z ∷ [] ≡ decimal_in 20 n
three_digits n x y z l h e f g =
    rw (e, ← div-div-eq-div-mul n 10 10, f, g) (sym (one_more 19 n (omega arith) ∙ rw (one_more 18 (n / 10) (omega arith), last_digit 17 (n / 10 / 10) (omega arith))))

-- ---- the first j digits, and then the last k
pub hex_split : (j k n : ℕ) → hex_in j (n / 16 ^ k) ++ hex_in k n ≡ hex_in (j + k) n
unfolding hex_in
hex_split j zero n = rw (append-nil, div-one, add-zero)
hex_split j (suc k) n =
    let e : n / 16 ^ suc k ≡ n / 16 / 16 ^ k = ap (λ (m : ℕ). n / m) (pow-suc 16 k ∙ mul_comm (16 ^ k) 16) ∙ sym (div-div-eq-div-mul n 16 (16 ^ k)) in
    rw (e, add-suc, ← hex_split j k (n / 16), append_assoc)
