-- The reduced argument of the exponential is of size 9/16 at most, for an argument from -685 to 0. Only the order of what is rounded is used.
use Rattle.ieee.specs.Decimal.{decimal}
use mathlib.Core.Path.{◌≡◌, refl, sym, ap, ◌∙◌, subst}
use mathlib.Core.Bool.{Bool, true, false, cond, ◌&&◌, true≢false}
use Prim.Native.Nat.{ℕ, suc, ◌+◌, ◌-◌, ◌*◌, ◌/◌, ◌%◌, ◌^◌, ◌<◌, ◌≤◌}
use native.Mathlib.Omega.{arith}
use native.Mathlib.Nat.{le_refl, eq_of_mul-eq-mul_right, le_trans, le_of_eq, lt_of_lt_of_le, lt_of_not-le, not-le_of_lt, lt_of_le_of_lt, mul-pos, mul-one, one-mul, add-mul, suc-mul, mul_comm, mul_assoc, mul_left_comm, mul_right_comm, mul-le-mul_right, mul-le-mul_left, mul-lt-mul_of_pos_right, le_of_mul-le-mul_right, div-mul-le_self, lt-div-mul-add, div-le_of_le-mul, mul-sub}
use borrow.Author.Tests.{eq-eqb}
use lib.Pow.{pow-add, pow_mono, shl_lt}
use lib.Dec.{T, ltb, lit<, lit≤}
use lib.IntN.{pos, negsuc}
use lib.Ieee.{Float, nan, inf, fin, binary64, up, down, round, sum, add, sub, mul, neg, fits, of_int, of_bits}
use lib.Ieee.Back.{round_whole}
use lib.Ieee.Exact.{HasValue, round_exact}
use lib.Ieee.Fits.{down_pos}
use lib.Ieee.Positive.{num, den, den_pos, value→cross}
use Rattle.math_elementary.specs.Constants.{log2e, ln2hi, ln2lo}
use Rattle.math_exponential.specs.Exp.{reduced_of}
use Rattle.math_exponential.proofs.Range.{round_neg}
use Rattle.math_elementary.proofs.Splits.{small}
use Rattle.math_normal.proofs.NonNeg.{nn, Below, cross→le, le→cross, mul_is, round_below}
use Rattle.math_normal.proofs.Self.{round_self, round_upto}
use Rattle.math_normal.proofs.Sizes.{Upto, upto_below, round_size, add_size, mul_size}
use Rattle.math_normal.proofs.Powers.{reach, mul_neg}

log_is : log2e ≡ fin false 3248660424278399 (negsuc 50)
unfolding of_bits decimal
log_is = refl

-- a quarter: n / 4 for an odd n
abbrev quarters : ℕ → Float
quarters n = fin false n (negsuc 1)

quarters_fit : (n : ℕ) → n < 2 ^ 53 → n % 2 ≡ 1 → T (fits binary64 (quarters n))
quarters_fit n l o = small n 2 l (lit≤ tt) (rw (eq-eqb (n % 2) 1 o) tt) (omega arith)

thousand : T (fits binary64 (fin false 125 (pos 3)))
unfolding fits
thousand = tt

module _ (Y : Float) (n_y : T (nn Y)) (most : num Y ≤ 685 * den Y) where
  abbrev pub N0 : ℕ
  N0 = num Y * 3248660424278399

  abbrev pub D0 : ℕ
  D0 = den Y * 2251799813685248

  D0-pos : 0 < D0
  D0-pos = mul-pos (den_pos Y) (lit< tt)

  abbrev pub t : Float
  t = mul binary64 Y log2e

  t_is : t ≡ round binary64 false N0 D0
  t_is = rw log_is (mul_is binary64 Y (fin false 3248660424278399 (negsuc 50)) n_y tt)

  pub t_below : Below t (fin false 125 (pos 3))
  t_below = rw t_is (round_upto N0 D0 (fin false 125 (pos 3)) D0-pos thousand tt (omega (arith, most)))

  -- the whole number nearest to t
  abbrev pub K : ℕ
  K = (2 * num t + den t) / (2 * den t)

  K-from : K * (2 * den t) ≤ 2 * num t + den t
  K-from = div-mul-le_self (2 * num t + den t) (2 * den t)

  K-below : 2 * num t + den t < K * (2 * den t) + 2 * den t
  K-below = lt-div-mul-add {a = 2 * num t + den t} {b = 2 * den t} (mul-pos (lit< tt) (den_pos t))

  pub K-small : K ≤ 1001
  K-small = div-le_of_le-mul (2 * den t) (let c : num t * 1 ≤ 1000 * den t = le→cross t (fin false 125 (pos 3)) t_below.is tt t_below.le in omega (arith, den_pos t))

  -- Y * log2e lies within 3/4 of K: a quarter beyond is a float, and what is rounded would lie beyond it too
  pub low_K : (j : ℕ) → K ≡ suc j → (4 * j + 1) * D0 < 4 * N0
  low_K j e = lt_of_not-le (λ (g : 4 * N0 ≤ (4 * j + 1) * D0). no g)
    where
      no : 4 * N0 ≤ (4 * j + 1) * D0 → ⊥
      no g =
          let b : Below t (quarters (4 * j + 1)) = rw t_is (round_upto N0 D0 (quarters (4 * j + 1)) D0-pos (quarters_fit (4 * j + 1) (omega (arith, K-small)) (omega arith)) tt (le_trans (le_of_eq (mul_comm N0 4)) (le_trans g (le_of_eq (ap (λ (x : ℕ). x * D0) (sym (mul-one (4 * j + 1)))))))) in
          let c : num t * 4 ≤ (4 * j + 1) * 1 * den t = le→cross t (quarters (4 * j + 1)) b.is tt b.le in
          clash (num t) (den t) (den_pos t) (rw e at K-from) c
        where
          clash : (n d : ℕ) → 0 < d → suc j * (2 * d) ≤ 2 * n + d → n * 4 ≤ (4 * j + 1) * 1 * d → ⊥
          clash n d p x y =
              let a : suc j * (2 * d) ≡ 2 * (j * d) + 2 * d = suc-mul j (2 * d) ∙ ap (λ (z : ℕ). z + 2 * d) (mul_left_comm j 2 d) in
              let b : (4 * j + 1) * 1 * d ≡ 4 * (j * d) + d = ap (λ (z : ℕ). z * d) (mul-one (4 * j + 1)) ∙ add-mul (4 * j) 1 d ∙ ap (λ (z : ℕ). z + 1 * d) (mul_assoc 4 j d) ∙ ap (λ (z : ℕ). 4 * (j * d) + z) (one-mul d) in
              omega arith

  pub up_K : 4 * N0 < (4 * K + 3) * D0
  up_K = lt_of_not-le (λ (g : (4 * K + 3) * D0 ≤ 4 * N0). no g)
    where
      no : (4 * K + 3) * D0 ≤ 4 * N0 → ⊥
      no g =
          let B = quarters (4 * K + 3) in
          let s : round binary64 false (num B) (den B) ≡ B = round_self B (quarters_fit (4 * K + 3) (omega (arith, K-small)) (omega arith)) tt in
          let b : Below (round binary64 false (num B) (den B)) (round binary64 false N0 D0) = round_below binary64 (num B) (den B) N0 D0 (den_pos B) D0-pos (le_trans (le_of_eq (ap (λ (x : ℕ). x * D0) (mul-one (4 * K + 3)))) (le_trans g (le_of_eq (mul_comm 4 N0)))) (rw t_is at t_below.is) in
          let b' : Below B t = subst (λ (z : Float). Below B z) (sym t_is) (subst (λ (z : Float). Below z (round binary64 false N0 D0)) s b) in
          let c : (4 * K + 3) * 1 * den t ≤ num t * 4 = le→cross B t tt t_below.is b'.le in
          clash K (num t) (den t) (den_pos t) K-below c
        where
          clash : (k n d : ℕ) → 0 < d → 2 * n + d < k * (2 * d) + 2 * d → (4 * k + 3) * 1 * d ≤ n * 4 → ⊥
          clash k n d p x y =
              let a : k * (2 * d) ≡ 2 * (k * d) = mul_left_comm k 2 d in
              let b : (4 * k + 3) * 1 * d ≡ 4 * (k * d) + 3 * d = ap (λ (z : ℕ). z * d) (mul-one (4 * k + 3)) ∙ add-mul (4 * k) 3 d ∙ ap (λ (z : ℕ). z + 3 * d) (mul_assoc 4 k d) in
              omega arith

-- ---- |Y - K * ln2hi| is 17/32 at most; ln2hi is 2977044471 / 2 ^ 32
abbrev span : Float
span = fin false 17 (negsuc 4)

lt_cancel : (a b c : ℕ) → a * c < b * c → a < b
lt_cancel a b c h = lt_of_not-le (λ (g : b ≤ a). not-le_of_lt h (mul-le-mul_right c g))

-- a / b < q / p ≤ s / r
weaken : (a b p q r s : ℕ) → 0 < r → a * p < b * q → q * r ≤ s * p → a * r < b * s
weaken a b p q r s R h k =
    lt_cancel (a * r) (b * s) p
    (lt_of_le_of_lt (le_of_eq (mul_right_comm a r p))
    (lt_of_lt_of_le (mul-lt-mul_of_pos_right h R)
    (le_trans (le_of_eq (mul_assoc b q r)) (le_trans (mul-le-mul_left b k) (le_of_eq (sym (mul_assoc b s p)))))))

-- In coarser numbers, as omega wants them: log2e lies between 1.44269 and 1.4427, and ln2hi between 0.693147 and 0.69315. W, D and Y are w, d and y times 2 ^ 32.
coarse_above : (m Y W D : ℕ) → m * 100000 ≤ 69315 * (W + D) → (4 * W + D) * 10000 ≤ 4 * Y * 14427 → W ≤ 1001 * D → (m - Y) * 32 ≤ 17 * D
coarse_above m Y W D a b c = omega arith

coarse_under : (m Y W D : ℕ) → 693147 * W ≤ m * 1000000 → 4 * Y * 144269 ≤ (4 * W + 3 * D) * 100000 → W ≤ 1001 * D → (Y - m) * 32 ≤ 17 * D
coarse_under m Y W D a b c = omega arith

up32 : (a b : ℕ) → a < b → a * 4294967296 ≤ b * 4294967296
up32 a b h = mul-le-mul_right 4294967296 (let q : a ≤ b = omega arith in q)

above : (y d j : ℕ) → j ≤ 1000 → (4 * j + 1) * (d * 2251799813685248) < 4 * (y * 3248660424278399) → (suc j * 2977044471 * d - y * 4294967296) * 32 ≤ 17 * (d * 4294967296)
above y d j l h =
    let w = j * d in
    let a : (4 * j + 1) * d ≡ 4 * w + d = add-mul (4 * j) 1 d ∙ ap (λ (z : ℕ). z + 1 * d) (mul_assoc 4 j d) ∙ ap (λ (z : ℕ). 4 * (j * d) + z) (one-mul d) in
    let b : suc j * 2977044471 * d ≡ 2977044471 * (w + d) = mul_right_comm (suc j) 2977044471 d ∙ mul_comm (suc j * d) 2977044471 ∙ ap (λ (z : ℕ). 2977044471 * z) (suc-mul j d) in
    let g : (4 * j + 1) * d * 10000 < 4 * y * 14427 = weaken ((4 * j + 1) * d) (4 * y) 2251799813685248 3248660424278399 10000 14427 (lit< tt) (lt_of_le_of_lt (le_of_eq (mul_assoc (4 * j + 1) d 2251799813685248)) (lt_of_lt_of_le h (le_of_eq (sym (mul_assoc 4 y 3248660424278399))))) (lit≤ tt) in
    coarse_above (suc j * 2977044471 * d) (y * 4294967296) (w * 4294967296) (d * 4294967296)
    (rw b (big_a w d)) (le_trans (le_of_eq (pull_a w d)) (le_trans (up32 ((4 * w + d) * 10000) (4 * y * 14427) (rw a at g)) (le_of_eq (push_a y)))) (le_trans (mul-le-mul_right 4294967296 (mul-le-mul_right d (let q : j ≤ 1001 = omega arith in q))) (le_of_eq (mul_assoc 1001 d 4294967296)))
  where
    big_a : (w d : ℕ) → 2977044471 * (w + d) * 100000 ≤ 69315 * (w * 4294967296 + d * 4294967296)
    big_a w d = omega arith

    pull_a : (w d : ℕ) → (4 * (w * 4294967296) + d * 4294967296) * 10000 ≡ (4 * w + d) * 10000 * 4294967296
    pull_a w d = omega arith

    push_a : (y : ℕ) → 4 * y * 14427 * 4294967296 ≡ 4 * (y * 4294967296) * 14427
    push_a y = omega arith

under : (y d j : ℕ) → j ≤ 1000 → 4 * (y * 3248660424278399) < (4 * suc j + 3) * (d * 2251799813685248) → (y * 4294967296 - suc j * 2977044471 * d) * 32 ≤ 17 * (d * 4294967296)
under y d j l h =
    let w = suc j * d in
    let a : (4 * suc j + 3) * d ≡ 4 * w + 3 * d = add-mul (4 * suc j) 3 d ∙ ap (λ (z : ℕ). z + 3 * d) (mul_assoc 4 (suc j) d) in
    let b : suc j * 2977044471 * d ≡ 2977044471 * w = mul_right_comm (suc j) 2977044471 d ∙ mul_comm (suc j * d) 2977044471 in
    let g : 4 * y * 144269 < (4 * suc j + 3) * d * 100000 = weaken (4 * y) ((4 * suc j + 3) * d) 3248660424278399 2251799813685248 144269 100000 (lit< tt) (lt_of_le_of_lt (le_of_eq (mul_assoc 4 y 3248660424278399)) (lt_of_lt_of_le h (le_of_eq (sym (mul_assoc (4 * suc j + 3) d 2251799813685248))))) (lit≤ tt) in
    coarse_under (suc j * 2977044471 * d) (y * 4294967296) (w * 4294967296) (d * 4294967296)
    (rw b (big_u w)) (le_trans (le_of_eq (push_u y)) (le_trans (up32 (4 * y * 144269) ((4 * w + 3 * d) * 100000) (rw a at g)) (le_of_eq (pull_u w d)))) (le_trans (mul-le-mul_right 4294967296 (mul-le-mul_right d (let q : suc j ≤ 1001 = omega arith in q))) (le_of_eq (mul_assoc 1001 d 4294967296)))
  where
    big_u : (w : ℕ) → 693147 * (w * 4294967296) ≤ 2977044471 * w * 1000000
    big_u w = omega arith

    push_u : (y : ℕ) → 4 * (y * 4294967296) * 144269 ≡ 4 * y * 144269 * 4294967296
    push_u y = omega arith

    pull_u : (w d : ℕ) → (4 * w + 3 * d) * 100000 * 4294967296 ≡ (4 * (w * 4294967296) + 3 * (d * 4294967296)) * 100000
    pull_u w d = omega arith

-- the same with P's own fraction p / q in the place of m / 2 ^ 32
carry : (y d p q m : ℕ) → p * 4294967296 ≡ m * q → (y * 4294967296 - m * d) * 32 ≤ 17 * (d * 4294967296) → (y * q - p * d) * 32 ≤ 17 * (d * q)
carry y d p q m e h =
    le_of_mul-le-mul_right {k = 4294967296}
    (le_trans (le_of_eq (mul_right_comm (y * q - p * d) 32 4294967296 ∙ ap (λ (z : ℕ). z * 32) (scaled y d p q m e)))
    (le_trans (le_of_eq (mul_right_comm (y * 4294967296 - m * d) q 32))
    (le_trans (mul-le-mul_right q h) (le_of_eq (shuffle d q)))))
    (lit< tt)
  where
    shuffle : (d q : ℕ) → 17 * (d * 4294967296) * q ≡ 17 * (d * q) * 4294967296
    shuffle d q = simp (mul_assoc, mul_comm, mul_left_comm)

    scaled : (y d p q m : ℕ) → p * 4294967296 ≡ m * q → (y * q - p * d) * 4294967296 ≡ (y * 4294967296 - m * d) * q
    scaled y d p q m e =
        mul_comm (y * q - p * d) 4294967296
        ∙ mul-sub 4294967296 (y * q) (p * d)
        ∙ ap (λ (z : ℕ). 4294967296 * (y * q) - z) (sym (mul_assoc 4294967296 p d) ∙ ap (λ (z : ℕ). z * d) (mul_comm 4294967296 p ∙ e))
        ∙ ap (λ (z : ℕ). z - m * q * d) (sym (mul_assoc 4294967296 y q) ∙ mul_comm (4294967296 * y) q ∙ ap (λ (z : ℕ). q * z) (mul_comm 4294967296 y))
        ∙ ap (λ (z : ℕ). q * (y * 4294967296) - z) (mul_right_comm m q d ∙ mul_comm (m * d) q)
        ∙ sym (mul-sub q (y * 4294967296) (m * d))
        ∙ mul_comm q (y * 4294967296 - m * d)

-- and the other way round
carry' : (y d p q m : ℕ) → p * 4294967296 ≡ m * q → (m * d - y * 4294967296) * 32 ≤ 17 * (d * 4294967296) → (p * d - y * q) * 32 ≤ 17 * (d * q)
carry' y d p q m e h =
    le_of_mul-le-mul_right {k = 4294967296}
    (le_trans (le_of_eq (mul_right_comm (p * d - y * q) 32 4294967296 ∙ ap (λ (z : ℕ). z * 32) scaled))
    (le_trans (le_of_eq (mul_right_comm (m * d - y * 4294967296) q 32))
    (le_trans (mul-le-mul_right q h) (le_of_eq (shuffle d q)))))
    (lit< tt)
  where
    shuffle : (d q : ℕ) → 17 * (d * 4294967296) * q ≡ 17 * (d * q) * 4294967296
    shuffle d q = simp (mul_assoc, mul_comm, mul_left_comm)

    scaled : (p * d - y * q) * 4294967296 ≡ (m * d - y * 4294967296) * q
    scaled =
        mul_comm (p * d - y * q) 4294967296
        ∙ mul-sub 4294967296 (p * d) (y * q)
        ∙ ap (λ (z : ℕ). z - 4294967296 * (y * q)) (sym (mul_assoc 4294967296 p d) ∙ ap (λ (z : ℕ). z * d) (mul_comm 4294967296 p ∙ e) ∙ mul_right_comm m q d ∙ mul_comm (m * d) q)
        ∙ ap (λ (z : ℕ). q * (m * d) - z) (sym (mul_assoc 4294967296 y q) ∙ mul_comm (4294967296 * y) q ∙ ap (λ (z : ℕ). q * z) (mul_comm 4294967296 y))
        ∙ sym (mul-sub q (m * d) (y * 4294967296))
        ∙ mul_comm q (m * d - y * 4294967296)

-- ---- a difference, by its size
pub diff_size : (Y P B : Float) → T (nn Y) → T (nn P) → T (fits binary64 B) → T (nn B) → (num Y * den P - num P * den Y) * den B ≤ num B * (den Y * den P) → (num P * den Y - num Y * den P) * den B ≤ num B * (den Y * den P) → Upto B (add binary64 (neg Y) P)
unfolding add sum neg
diff_size nan P B p q f b h k = absurd p
diff_size (inf s) P B p q f b h k = absurd p
diff_size (fin true m e) P B p q f b h k = absurd p
diff_size (fin false m e) nan B p q f b h k = absurd q
diff_size (fin false m e) (inf t) B p q f b h k = absurd q
diff_size (fin false m e) (fin true n d) B p q f b h k = absurd q
diff_size (fin false m e) (fin false n d) B p q f b h k = go (ltb (m * up e * down d) (n * up d * down e))
  where
    go : (t : Bool) → Upto B (cond t (round binary64 false (n * up d * down e - m * up e * down d) (down e * down d)) (round binary64 (true && ltb (n * up d * down e) (m * up e * down d)) (m * up e * down d - n * up d * down e) (down e * down d)))
    go true = round_size false (n * up d * down e - m * up e * down d) (down e * down d) B (mul-pos (down_pos e) (down_pos d)) f b k
    go false = round_size (true && ltb (n * up d * down e) (m * up e * down d)) (m * up e * down d - n * up d * down e) (down e * down d) B (mul-pos (down_pos e) (down_pos d)) f b h

neg_neg : (x : Float) → neg (neg x) ≡ x
unfolding neg
neg_neg nan = refl
neg_neg (inf true) = refl
neg_neg (inf false) = refl
neg_neg (fin true m e) = refl
neg_neg (fin false m e) = refl

sub_neg : (x y : Float) → sub binary64 x (neg y) ≡ add binary64 x y
unfolding sub
sub_neg x y = ap (λ (z : Float). add binary64 x z) (neg_neg y)

-- ---- for K = j + 1
hi_is : ln2hi ≡ fin false 2977044471 (negsuc 31)
unfolding of_bits decimal
hi_is = refl

lo_is : ln2lo ≡ fin false 3691024475790907 (negsuc 83)
unfolding of_bits decimal
lo_is = refl

abbrev tiny : Float
tiny = fin false 1 (negsuc 9)

abbrev kilo : Float
kilo = fin false 1 (pos 10)

fit_here : T (fits binary64 span) × T (fits binary64 tiny) × T (fits binary64 reach)
unfolding fits
fit_here = (tt, tt, tt)

whole_nn : (n : ℕ) (x : Float) → HasValue x false n 1 → T (nn x) × (num x ≡ n * den x)
whole_nn n nan h = absurd h
whole_nn n (inf s) h = absurd h
whole_nn n (fin true m e) h = absurd (true≢false h.0)
whole_nn n (fin false m e) h = (tt, sym (mul-one (m * up e)) ∙ h.1)

of_neg_is : (j : ℕ) → of_int binary64 (negsuc j) ≡ neg (round binary64 false (suc j) 1)
unfolding of_int
of_neg_is j = round_neg binary64 (suc j) 1

module _ (j : ℕ) (l : j ≤ 1000) where
  abbrev F : Float
  F = round binary64 false (suc j) 1

  F-is : T (nn F) × (num F ≡ suc j * den F)
  F-is = whole_nn (suc j) F (round_whole binary64 false (suc j) (omega arith))

  abbrev P : Float
  P = mul binary64 F ln2hi

  abbrev Q : Float
  Q = mul binary64 F ln2lo

  P-is : P ≡ round binary64 false (num F * 2977044471) (den F * 4294967296)
  P-is = rw hi_is (mul_is binary64 F (fin false 2977044471 (negsuc 31)) F-is.0 tt)

  split_power : (l : ℕ) → 2 ^ (l + 32) ≡ 2 ^ l * 4294967296
  split_power l = pow-add 2 l 32

  P-value : HasValue P false (num F * 2977044471) (den F * 4294967296)
  P-value =
      rw P-is
      (round_exact binary64 false (num F * 2977044471) (den F * 4294967296) (suc j * 2977044471) 1042 (mul-pos (den_pos F) (lit< tt)) (omega arith)
      (lt_of_lt_of_le (shl_lt {a = suc j * 2977044471} 53 1042 (omega arith)) (pow_mono {i = 53 + 1042} {j = 2098} (lit≤ tt)))
      (rw F-is.1 (arrange (suc j) (den F) (2 ^ 1042) (2 ^ 1074) (split_power 1042))))
    where
      arrange : (k d p q : ℕ) → q ≡ p * 4294967296 → k * d * 2977044471 * q ≡ k * 2977044471 * p * (d * 4294967296)
      arrange k d p q e = rw e (simp (mul_assoc, mul_comm, mul_left_comm))

  P-nn : T (nn P)
  P-nn = go P P-value
    where
      go : (x : Float) → HasValue x false (num F * 2977044471) (den F * 4294967296) → T (nn x)
      go nan h = absurd h
      go (inf s) h = absurd h
      go (fin true m e) h = absurd (true≢false h.0)
      go (fin false m e) h = tt

  P-cross : num P * 4294967296 ≡ suc j * 2977044471 * den P
  P-cross =
      eq_of_mul-eq-mul_right (den F) (den_pos F) (num P * 4294967296) (suc j * 2977044471 * den P)
      (tidy (num P) (den F) ∙ value→cross P (num F * 2977044471) (den F * 4294967296) P-value ∙ ap (λ (z : ℕ). z * 2977044471 * den P) F-is.1 ∙ tidy' (suc j) (den F) (den P))
    where
      tidy : (p f : ℕ) → p * 4294967296 * f ≡ p * (f * 4294967296)
      tidy p f = mul_assoc p 4294967296 f ∙ ap (λ (z : ℕ). p * z) (mul_comm 4294967296 f)

      tidy' : (k f q : ℕ) → k * f * 2977044471 * q ≡ k * 2977044471 * q * f
      tidy' k f q = ap (λ (z : ℕ). z * q) (mul_right_comm k f 2977044471) ∙ mul_right_comm (k * 2977044471) f q

  F-kilo : Upto kilo F
  F-kilo = upto_below kilo F tt (record { is = F-is.0; le = cross→le F kilo F-is.0 tt (le_trans (le_of_eq (mul-one (num F) ∙ F-is.1)) (mul-le-mul_right (den F) (let q : suc j ≤ 1024 = omega arith in q))) })

  Q-size : Upto tiny Q
  Q-size = rw lo_is (mul_size kilo (fin false 3691024475790907 (negsuc 83)) tiny F (fin false 3691024475790907 (negsuc 83)) fit_here.1 tt F-kilo (record { finite = tt; size = le_refl (3691024475790907 * 19342813113834066795298816) }) (lit≤ tt))

  pub reduced_size : (Y : Float) → T (nn Y) → (4 * j + 1) * (den Y * 2251799813685248) < 4 * (num Y * 3248660424278399) → 4 * (num Y * 3248660424278399) < (4 * suc j + 3) * (den Y * 2251799813685248) → Upto reach (reduced_of (neg Y) (negsuc j))
  reduced_size Y p h k =
      let d1 : (num Y * den P - num P * den Y) * 32 ≤ 17 * (den Y * den P) = carry (num Y) (den Y) (num P) (den P) (suc j * 2977044471) P-cross (under (num Y) (den Y) j l k) in
      let d2 : (num P * den Y - num Y * den P) * 32 ≤ 17 * (den Y * den P) = carry' (num Y) (den Y) (num P) (den P) (suc j * 2977044471) P-cross (above (num Y) (den Y) j l h) in
      let r1 : Upto span (add binary64 (neg Y) P) = diff_size Y P span p P-nn fit_here.0 tt d1 d2 in
      rw (of_neg_is j, mul_neg F ln2hi F-is.0 hi_nn, mul_neg F ln2lo F-is.0 lo_nn, sub_neg (neg Y) P, sub_neg (add binary64 (neg Y) P) Q)
      (add_size span tiny reach (add binary64 (neg Y) P) Q fit_here.2 tt r1 Q-size (lit≤ tt))
    where
      hi_nn : T (nn ln2hi)
      hi_nn = rw hi_is tt

      lo_nn : T (nn ln2lo)
      lo_nn = rw lo_is tt
