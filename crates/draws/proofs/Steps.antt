-- A step keeps a state within its 64 bits and never makes it 0. Assumes nothing.
use mathlib.Core.Path.{◌≡◌, refl, sym, ap, ◌∙◌}
use Prim.Native.Nat.{ℕ, zero, suc, ◌+◌, ◌*◌, ◌/◌, ◌%◌, ◌^◌, ◌<◌, suc-le-suc}
use native.Mathlib.Omega.{arith}
use native.Mathlib.Nat.{div-add-mod', mod-lt, zero-lt-suc, mod-one, mod-eq_of_lt, add-zero, pow-suc, mul_assoc, mul_right_comm, mul-mod_left, le_trans, div-le_self}
use lib.Pow.{mod-mod-pow, pow_pos}
use lib.Arith.{bin_ind}
use lib.Bits.{bit_xor, xor_step, xor_lt, differ}
use Rattle.draws.specs.Xorshift.{left_of, right_of, step_of, steps_of}

-- ---- an exclusive or is 0 of equal numbers alone
digits_same : (x y : ℕ) → x < 2 → y < 2 → differ x y ≡ 0 → x ≡ y
digits_same zero zero h k e = refl
digits_same zero (suc y) h k e = sym e
digits_same (suc x) zero h k e = e
digits_same (suc zero) (suc zero) h k e = refl
digits_same (suc zero) (suc (suc y)) h k e = absurd (let z : ⊥ = omega arith in z)
digits_same (suc (suc x)) (suc y) h k e = absurd (let z : ⊥ = omega arith in z)

xor_zero : (a b : ℕ) → bit_xor a b ≡ 0 → a ≡ b
xor_zero a =
    bin_ind (λ (n : ℕ). (b : ℕ) → bit_xor n b ≡ 0 → n ≡ b) (λ b e. sym e)
    (λ n ih b e.
    let s = xor_step n b in
    let w : bit_xor (n / 2) (b / 2) * 2 + differ (n % 2) (b % 2) ≡ 0 = sym s ∙ e in
    let p : bit_xor (n / 2) (b / 2) ≡ 0 = omega (arith, w) in
    let q : differ (n % 2) (b % 2) ≡ 0 = omega (arith, w) in
    let h = ih (b / 2) p in
    let d = digits_same (n % 2) (b % 2) (mod-lt n (zero-lt-suc 1)) (mod-lt b (zero-lt-suc 1)) q in
    sym (div-add-mod' n 2) ∙ ap (λ (z : ℕ). z * 2 + n % 2) h ∙ ap (λ (z : ℕ). b / 2 * 2 + z) d ∙ div-add-mod' b 2) a

-- ---- to the right: x = x / 2^7 is 0
right_nonzero : (x : ℕ) → right_of 7 x ≡ 0 → x ≡ 0
unfolding right_of
right_nonzero x e = let h : x ≡ x / 128 = xor_zero x (x / 2 ^ 7) e in omega (arith, h)

-- ---- to the left: where x is x * 2^(k + 1) cut to 64 digits, every low digit of x is 0, one after the other
shuffle : (q p k : ℕ) → q * p * 2 ^ suc k ≡ q * 2 ^ k * (p * 2)
shuffle q p k = ap (λ (z : ℕ). q * p * z) (pow-suc 2 k) ∙ sym (mul_assoc (q * p) (2 ^ k) 2) ∙ ap (λ (z : ℕ). z * 2) (mul_right_comm q p (2 ^ k)) ∙ mul_assoc (q * 2 ^ k) p 2

clear : (k x : ℕ) → x ≡ (x * 2 ^ suc k) % 2 ^ 64 → (n j : ℕ) → j + n ≡ 64 → x % 2 ^ n ≡ 0
clear k x e zero j h = mod-one x
clear k x e (suc n) j h =
    let l : suc j + n ≡ 64 = omega arith in
    let i = clear k x e n (suc j) l in
    let d : x ≡ x / 2 ^ n * 2 ^ n = sym (div-add-mod' x (2 ^ n)) ∙ ap (λ (z : ℕ). x / 2 ^ n * 2 ^ n + z) i ∙ add-zero (x / 2 ^ n * 2 ^ n) in
    let m : x * 2 ^ suc k ≡ x / 2 ^ n * 2 ^ k * 2 ^ suc n =
    ap (λ (z : ℕ). z * 2 ^ suc k) d ∙ shuffle (x / 2 ^ n) (2 ^ n) k ∙ ap (λ (z : ℕ). x / 2 ^ n * 2 ^ k * z) (sym (pow-suc 2 n)) in
    let f : x ≡ (x * 2 ^ suc k) % 2 ^ (j + suc n) = e ∙ ap (λ (z : ℕ). (x * 2 ^ suc k) % 2 ^ z) (sym h) in
    ap (λ (z : ℕ). z % 2 ^ suc n) f ∙ mod-mod-pow (x * 2 ^ suc k) j (suc n) ∙ ap (λ (z : ℕ). z % 2 ^ suc n) m ∙ mul-mod_left (x / 2 ^ n * 2 ^ k) (2 ^ suc n)

left_nonzero : (k x : ℕ) → x < 2 ^ 64 → left_of (suc k) x ≡ 0 → x ≡ 0
unfolding left_of
left_nonzero k x b e = sym (mod-eq_of_lt b) ∙ clear k x (xor_zero x ((x * 2 ^ suc k) % 2 ^ 64) e) 64 0 refl

-- ---- within 64 bits
left_fits : (k x : ℕ) → x < 2 ^ 64 → left_of k x < 2 ^ 64
unfolding left_of
left_fits k x b = xor_lt 64 x ((x * 2 ^ k) % 2 ^ 64) b (mod-lt (x * 2 ^ k) (pow_pos 64))

right_fits : (x : ℕ) → x < 2 ^ 64 → right_of 7 x < 2 ^ 64
unfolding right_of
right_fits x b = xor_lt 64 x (x / 2 ^ 7) b (le_trans (suc-le-suc (div-le_self x (2 ^ 7))) b)

pub step_fits : (x : ℕ) → x < 2 ^ 64 → step_of x < 2 ^ 64
unfolding step_of
step_fits x b = left_fits 17 (right_of 7 (left_of 13 x)) (right_fits (left_of 13 x) (left_fits 13 x b))

pub steps_fit : (n x : ℕ) → x < 2 ^ 64 → steps_of n x < 2 ^ 64
unfolding steps_of
steps_fit zero x b = b
steps_fit (suc n) x b = steps_fit n (step_of x) (step_fits x b)

-- ---- never 0
pub step_nonzero : (x : ℕ) → x < 2 ^ 64 → (x ≡ 0 → ⊥) → step_of x ≡ 0 → ⊥
unfolding step_of
step_nonzero x b h e =
    let y = left_of 13 x in
    let yb = left_fits 13 x b in
    let z = right_of 7 y in
    let zb = right_fits y yb in
    h (left_nonzero 12 x b (right_nonzero y (left_nonzero 16 z zb e)))

pub steps_nonzero : (n x : ℕ) → x < 2 ^ 64 → (x ≡ 0 → ⊥) → steps_of n x ≡ 0 → ⊥
unfolding steps_of
steps_nonzero zero x b h = h
steps_nonzero (suc n) x b h = steps_nonzero n (step_of x) (step_fits x b) (step_nonzero x b h)
