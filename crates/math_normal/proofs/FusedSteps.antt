-- The fused step keeps the order too, so what `Between` proves holds of it.
use Rattle.ieee.specs.Decimal.{decimal}
use mathlib.Core.Path.{◌≡◌, refl}
use mathlib.Core.Bool.{Bool, true, false, cond, ◌&&◌, beq}
use Prim.Native.Nat.{ℕ, ◌+◌, ◌-◌, ◌*◌, ◌≤◌}
use native.Mathlib.Nat.{le_trans, le_of_eq, mul-pos, mul-mul-mul_comm, mul-le-mul}
use lib.Dec.{T, ltb}
use lib.Ieee.{Float, nan, inf, fin, binary64, up, down, round, sum, le, fits, of_bits}
use lib.Ieee.Fits.{round-fits, nan-fits, inf-fits}
use lib.Ieee.Positive.{num, den, den_pos}
use Rattle.ieee.specs.Fused.{Product, invalid, infinite, exact, product, plus, fused_of}
use Rattle.math_normal.proofs.NonNeg.{nn, le→cross, round_below, sums}
use Rattle.math_normal.proofs.Hart.{Orderly}
use Rattle.math_normal.proofs.Quotient.{Sound}

fused_is : (a b c : Float) → T (nn a) → T (nn b) → T (nn c) → fused_of a b c ≡ round binary64 false (num a * num b * den c + num c * (den a * den b)) (den a * den b * den c)
unfolding fused_of sum
fused_is nan b c p q r = absurd p
fused_is (inf s) b c p q r = absurd p
fused_is (fin true m e) b c p q r = absurd p
fused_is (fin false m e) nan c p q r = absurd q
fused_is (fin false m e) (inf t) c p q r = absurd q
fused_is (fin false m e) (fin true n d) c p q r = absurd q
fused_is (fin false m e) (fin false n d) nan p q r = absurd r
fused_is (fin false m e) (fin false n d) (inf u) p q r = absurd r
fused_is (fin false m e) (fin false n d) (fin true k g) p q r = absurd r
fused_is (fin false m e) (fin false n d) (fin false k g) p q r = refl

products : (X dx Y dy X' dx' Y' dy' : ℕ) → X * dx' ≤ X' * dx → Y * dy' ≤ Y' * dy → X * Y * (dx' * dy') ≤ X' * Y' * (dx * dy)
products X dx Y dy X' dx' Y' dy' h k = le_trans (le_of_eq (mul-mul-mul_comm X Y dx' dy')) (le_trans (mul-le-mul h k) (le_of_eq (mul-mul-mul_comm X' dx Y' dy)))

fused_orderly : Orderly fused_of
fused_orderly = record {
  mono = λ a a' z z' c c' na nz nc ka kz kc s.
      rw (fused_is a z c ka.is kz.is kc.is, fused_is a' z' c' na nz nc)
      (round_below binary64 _ _ _ _ (mul-pos (mul-pos (den_pos a) (den_pos z)) (den_pos c)) (mul-pos (mul-pos (den_pos a') (den_pos z')) (den_pos c'))
      (sums (num a * num z) (den a * den z) (num c) (den c) (num a' * num z') (den a' * den z') (num c') (den c')
      (products (num a) (den a) (num z) (den z) (num a') (den a') (num z') (den z') (le→cross a a' ka.is na ka.le) (le→cross z z' kz.is nz kz.le))
      (le→cross c c' kc.is nc kc.le))
      (rw (fused_is a' z' c' na nz nc) at s));
}

sum_fits : (s t : Bool) (a b c : ℕ) → T (fits binary64 (sum binary64 s a t b c))
unfolding sum
sum_fits s t a b c = go (beq s t) (ltb a b)
  where
    go : (x y : Bool) → T (fits binary64 (cond x (round binary64 s (a + b) c) (cond y (round binary64 t (b - a) c) (round binary64 (s && ltb b a) (a - b) c))))
    go true y = round-fits binary64 s (a + b) c
    go false true = round-fits binary64 t (b - a) c
    go false false = round-fits binary64 (s && ltb b a) (a - b) c

sum_of : (p : Product) (c : Float) → T (fits binary64 (plus p c))
unfolding plus
sum_of invalid c = nan-fits binary64
sum_of (infinite s) nan = nan-fits binary64
sum_of (infinite s) (inf t) = go (beq s t)
  where
    go : (b : Bool) → T (fits binary64 (cond b (inf s) nan))
    go true = inf-fits binary64 s
    go false = nan-fits binary64
sum_of (infinite s) (fin t o g) = inf-fits binary64 s
sum_of (exact s a b) nan = nan-fits binary64
sum_of (exact s a b) (inf t) = inf-fits binary64 t
sum_of (exact s a b) (fin t o g) = sum_fits s t (a * down g) (o * up g * b) (b * down g)

fused_fits : (a b c : Float) → T (fits binary64 (fused_of a b c))
unfolding fused_of
fused_fits a b c = sum_of (product a b) c

pub exact_sound : Sound fused_of
unfolding fused_of sum le of_bits decimal
exact_sound = record { orderly = fused_orderly; held = fused_fits; chain8 = tt; head = tt; above = tt }
