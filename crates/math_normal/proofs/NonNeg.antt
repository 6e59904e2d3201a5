-- Finite floats that are not negative: the rounding keeps their order, so sums, products and quotients do.
use mathlib.Core.Path.{◌≡◌, refl, sym}
use mathlib.Core.Bool.{Bool, true, false, not, cond, true≢false}
use Prim.Native.Nat.{ℕ, zero, suc, ◌+◌, ◌*◌, ◌^◌, ◌<◌, ◌≤◌}
use native.Mathlib.Omega.{arith}
use native.Mathlib.Nat.{zero-mul, le_trans, le_of_eq, add-le-add, mul-pos, add-mul, mul_assoc, mul_comm, mul_left_comm, mul-mul-mul_comm, mul-le-mul, mul-le-mul_right}
use borrow.Author.Tests.{ne_eqb}
use lib.Dec.{T, ltb}
use lib.Ieee.{Float, nan, inf, fin, Format, up, down, round, add, mul, div, le, units, odd, low, prec, emax}
use lib.Ieee.Fits.{round_is}
use lib.Ieee.Order.{round_mono, drop, kept}
use lib.Ieee.Positive.{num, den, den_pos}
use Rattle.math_elementary.proofs.AtMost.{or_le, le_or}
use Rattle.math_exponential.proofs.Nearest.{sgn}
use Rattle.math_exponential.proofs.Range.{round_sgn}

-- finite, with the sign clear
abbrev pub nn : Float → Bool
nn nan = false
nn (inf s) = false
nn (fin true m e) = false
nn (fin false m e) = true

-- ---- the order is the fractions'
pub le→cross : (x y : Float) → T (nn x) → T (nn y) → T (le x y) → num x * den y ≤ num y * den x
unfolding le
le→cross nan y p q h = absurd p
le→cross (inf s) y p q h = absurd p
le→cross (fin true m e) y p q h = absurd p
le→cross (fin false m e) nan p q h = absurd q
le→cross (fin false m e) (inf t) p q h = absurd q
le→cross (fin false m e) (fin true n d) p q h = absurd q
le→cross (fin false m e) (fin false n d) p q h = or_le (m * up e * down d) (n * up d * down e) true h

pub cross→le : (x y : Float) → T (nn x) → T (nn y) → num x * den y ≤ num y * den x → T (le x y)
unfolding le
cross→le nan y p q h = absurd p
cross→le (inf s) y p q h = absurd p
cross→le (fin true m e) y p q h = absurd p
cross→le (fin false m e) nan p q h = absurd q
cross→le (fin false m e) (inf t) p q h = absurd q
cross→le (fin false m e) (fin true n d) p q h = absurd q
cross→le (fin false m e) (fin false n d) p q h = le_or (m * up e * down d) (n * up d * down e) h

-- ---- what is rounded, below something finite
under : (z hi : Float) → sgn z ≡ false → T (nn hi) → T (le z hi) → T (nn z)
unfolding le
under nan hi s p h = absurd h
under (inf true) hi s p h = absurd (true≢false s)
under (inf false) nan s p h = absurd p
under (inf false) (inf t) s p h = absurd p
under (inf false) (fin t n d) s p h = absurd h
under (fin true m e) hi s p h = absurd (true≢false s)
under (fin false m e) hi s p h = tt

pub record Below (x y : Float) : Type 0 where
  pub is : T (nn x)
  pub le : T (le x y)

pub round_below : (f : Format) (a c b d : ℕ) → 0 < c → 0 < d → a * d ≤ b * c → T (nn (round f false b d)) → Below (round f false a c) (round f false b d)
round_below f a c b d C D h p =
    let l = round_mono f a c b d C D h in
    record { is = under (round f false a c) (round f false b d) (round_sgn f a c) p l; le = l }

-- ---- the operations
pub add_is : (f : Format) (x y : Float) → T (nn x) → T (nn y) → add f x y ≡ round f false (num x * den y + num y * den x) (den x * den y)
unfolding add
add_is f nan y p q = absurd p
add_is f (inf s) y p q = absurd p
add_is f (fin true m e) y p q = absurd p
add_is f (fin false m e) nan p q = absurd q
add_is f (fin false m e) (inf t) p q = absurd q
add_is f (fin false m e) (fin true n d) p q = absurd q
add_is f (fin false m e) (fin false n d) p q = refl

pub mul_is : (f : Format) (x y : Float) → T (nn x) → T (nn y) → mul f x y ≡ round f false (num x * num y) (den x * den y)
unfolding mul
mul_is f nan y p q = absurd p
mul_is f (inf s) y p q = absurd p
mul_is f (fin true m e) y p q = absurd p
mul_is f (fin false m e) nan p q = absurd q
mul_is f (fin false m e) (inf t) p q = absurd q
mul_is f (fin false m e) (fin true n d) p q = absurd q
mul_is f (fin false m e) (fin false n d) p q = refl

zero_sig : (n u : ℕ) → 0 < n * u → n ≡ 0 → ⊥
zero_sig zero u h e = absurd (let z : 0 * u ≡ 0 = zero-mul u in let y : ⊥ = omega arith in y)
zero_sig (suc n) u h e = omega arith

pub div_is : (f : Format) (x y : Float) → T (nn x) → T (nn y) → 0 < num y → div f x y ≡ round f false (num x * den y) (num y * den x)
unfolding div
div_is f nan y p q h = absurd p
div_is f (inf s) y p q h = absurd p
div_is f (fin true m e) y p q h = absurd p
div_is f (fin false m e) nan p q h = absurd q
div_is f (fin false m e) (inf t) p q h = absurd q
div_is f (fin false m e) (fin true n d) p q h = absurd q
div_is f (fin false m e) (fin false n d) p q h = rw (ne_eqb n 0 (zero_sig n (up d) h))

pub sums : (X dx Y dy X' dx' Y' dy' : ℕ) → X * dx' ≤ X' * dx → Y * dy' ≤ Y' * dy → (X * dy + Y * dx) * (dx' * dy') ≤ (X' * dy' + Y' * dx') * (dx * dy)
sums X dx Y dy X' dx' Y' dy' h k =
    le_trans (le_of_eq (add-mul (X * dy) (Y * dx) (dx' * dy')))
    (le_trans (add-le-add
    (le_trans (le_of_eq (simp (mul_assoc, mul_left_comm))) (le_trans (mul-le-mul_right (dy * dy') h) (le_of_eq (simp (mul_assoc, mul_comm, mul_left_comm)))))
    (le_trans (le_of_eq (simp (mul_assoc, mul_comm, mul_left_comm))) (le_trans (mul-le-mul_right (dx * dx') k) (le_of_eq (simp (mul_assoc, mul_comm, mul_left_comm))))))
    (le_of_eq (sym (add-mul (X' * dy') (Y' * dx') (dx * dy)))))

pub add_below : (f : Format) (x x' y y' : Float) → T (nn x') → T (nn y') → Below x x' → Below y y' → T (nn (add f x' y')) → Below (add f x y) (add f x' y')
add_below f x x' y y' p q h k s =
    rw (add_is f x y h.is k.is, add_is f x' y' p q)
    (round_below f _ _ _ _ (mul-pos (den_pos x) (den_pos y)) (mul-pos (den_pos x') (den_pos y'))
    (sums (num x) (den x) (num y) (den y) (num x') (den x') (num y') (den y') (le→cross x x' h.is p h.le) (le→cross y y' k.is q k.le))
    (rw (add_is f x' y' p q) at s))

pub mul_below : (f : Format) (x x' y y' : Float) → T (nn x') → T (nn y') → Below x x' → Below y y' → T (nn (mul f x' y')) → Below (mul f x y) (mul f x' y')
mul_below f x x' y y' p q h k s =
    rw (mul_is f x y h.is k.is, mul_is f x' y' p q)
    (round_below f _ _ _ _ (mul-pos (den_pos x) (den_pos y)) (mul-pos (den_pos x') (den_pos y'))
    (le_trans (le_of_eq (mul-mul-mul_comm (num x) (num y) (den x') (den y')))
    (le_trans (mul-le-mul (le→cross x x' h.is p h.le) (le→cross y y' k.is q k.le)) (le_of_eq (mul-mul-mul_comm (num x') (den x) (num y') (den y)))))
    (rw (mul_is f x' y' p q) at s))

-- a quotient grows with the dividend and shrinks as the divisor grows
pub div_below : (f : Format) (x x' y y' : Float) → T (nn x') → T (nn y) → 0 < num y → 0 < num y' → Below x x' → Below y' y → T (nn (div f x' y')) → Below (div f x y) (div f x' y')
div_below f x x' y y' p q Y Y' h k s =
    rw (div_is f x y h.is q Y, div_is f x' y' p k.is Y')
    (round_below f _ _ _ _ (mul-pos Y (den_pos x)) (mul-pos Y' (den_pos x'))
    (le_trans (le_of_eq (simp (mul_assoc, mul_comm, mul_left_comm)))
    (le_trans (mul-le-mul (le→cross x x' h.is p h.le) (le→cross y' y k.is q k.le)) (le_of_eq (simp (mul_assoc, mul_comm, mul_left_comm)))))
    (rw (div_is f x' y' p k.is Y') at s))

-- ---- not negative, perhaps an infinity
abbrev pub shape : Float → Bool
shape nan = false
shape (inf s) = not s
shape (fin s m e) = not s

units_shape : (f : Format) (q k : ℕ) → T (shape (units f false q k))
unfolding units odd
units_shape f q k = go (ltb (q * 2 ^ k) (2 ^ (low f + suc (emax f)))) q
  where
    go : (b : Bool) (q : ℕ) → T (shape (cond b (odd (suc (prec f)) false q k (low f)) (inf false)))
    go true zero = tt
    go true (suc q) = tt
    go false q = tt

pub round_shape : (f : Format) (a c : ℕ) → T (shape (round f false a c))
round_shape f a c = rw (round_is f false a c) (units_shape f (kept (prec f) (a * 2 ^ low f) c) (drop (prec f) (a * 2 ^ low f) c))

pub mul_shape : (f : Format) (x y : Float) → T (nn x) → T (nn y) → T (shape (mul f x y))
mul_shape f x y p q = rw (mul_is f x y p q) (round_shape f _ _)
