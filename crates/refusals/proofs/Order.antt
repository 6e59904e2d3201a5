-- The order of floats, NaNs and infinities included: what is below y is below all that y is at most; of two numbers of which one is below the other, they are not equal and the other is not below the one; of two that are not equal one is below the other.
use mathlib.Core.Path.{◌≡◌, refl, sym, ap, ◌∙◌, subst}
use mathlib.Core.Logic.{◌⊎◌, inl, inr, ⊎_elim}
use mathlib.Core.Bool.{Bool, true, false, ◌&&◌, ◌||◌}
use Prim.Native.Nat.{ℕ, ◌+◌, ◌*◌, ◌≤◌, ◌<◌}
use native.Mathlib.Omega.{arith}
use native.Mathlib.Nat as Nat
use native.Mathlib.Nat.{lt_of_lt_of_le, lt_of_le_of_lt, eq-zero-or-pos, zero-mul, mul-pos, mul_right_comm, mul-le-mul_right, mul-lt-mul_of_pos_right, lt_of_mul-lt-mul_right}
use lib.Dec.{T, ltb, eqb, ltb→lt, lt→ltb, nltb→le, eqb→eq, eqb_refl}
use lib.Ieee.{Float, nan, inf, fin, up, down, below, level, lt, le, eq}
use lib.Ieee.Fits.{down_pos, and_l, and_r}
use lib.Ieee.Positive.{first_pos}

-- ---- tests
pub both : (a b : Bool) → (a && b) ≡ true → (a ≡ true) × (b ≡ true)
both true b h = (refl, h)
both false b h = let z : ◌≡◌ {A = ℕ} 0 1 = cc in absurd (let y : ⊥ = omega arith in y)

pub holds : (b : Bool) → b ≡ true → T b
holds true h = tt
holds false h = let z : ◌≡◌ {A = ℕ} 0 1 = cc in absurd (let y : ⊥ = omega arith in y)

pub held : (b : Bool) → T b → b ≡ true
held true h = refl
held false h = absurd h

either : (a b : Bool) → T (a || b) → T a ⊎ T b
either true b h = inl tt
either false b h = inr h

pub refuted : (b : Bool) → (T b → ⊥) → b ≡ false
refuted true h = absurd (h tt)
refuted false h = refl

at_most : (m n : ℕ) (b : Bool) → T (ltb m n || (eqb m n && b)) → m ≤ n
at_most m n b h = ⊎_elim (λ l. Nat.le_of_lt (ltb→lt m n l)) (λ e. Nat.le_of_eq (eqb→eq m n (and_l (eqb m n) b e))) (either (ltb m n) (eqb m n && b) h)

at_least : (m n : ℕ) (b : Bool) → T (ltb n m || (eqb m n && b)) → n ≤ m
at_least m n b h = ⊎_elim (λ l. Nat.le_of_lt (ltb→lt n m l)) (λ e. Nat.le_of_eq (sym (eqb→eq m n (and_l (eqb m n) b e)))) (either (ltb n m) (eqb m n && b) h)

both_zero : (m n : ℕ) → T (eqb m n && eqb m 0) → (m ≡ 0) × (n ≡ 0)
both_zero m n h =
    let e : m ≡ n = eqb→eq m n (and_l (eqb m n) (eqb m 0) h) in
    let z : m ≡ 0 = eqb→eq m 0 (and_r (eqb m n) (eqb m 0) h) in
    (z, sym e ∙ z)

-- ---- three fractions a / p, b / q, c / r
module _ (a b c p q r : ℕ) (P : 0 < p) (Q : 0 < q) (R : 0 < r) where
  rising : a * q < b * p → b * r ≤ c * q → a * r < c * p
  rising h k =
      lt_of_mul-lt-mul_right q
      (lt_of_le_of_lt (Nat.le_of_eq (mul_right_comm a r q))
      (lt_of_lt_of_le (mul-lt-mul_of_pos_right h R)
      (subst (λ (n : ℕ). n ≤ c * p * q) (mul_right_comm b r p)
      (subst (λ (n : ℕ). b * r * p ≤ n) (mul_right_comm c q p) (mul-le-mul_right p k)))))

  falling : b * p < a * q → c * q ≤ b * r → c * p < a * r
  falling h k =
      lt_of_mul-lt-mul_right q
      (lt_of_le_of_lt (Nat.le_of_eq (mul_right_comm c p q))
      (lt_of_le_of_lt (mul-le-mul_right p k)
      (subst (λ (n : ℕ). n < a * r * q) (mul_right_comm b p r)
      (subst (λ (n : ℕ). b * p * r < n) (mul_right_comm a q r) (mul-lt-mul_of_pos_right h R)))))

  zero_of : (n m : ℕ) → 0 < m → n * m ≡ 0 → n ≡ 0
  zero_of n m M e = ⊎_elim (λ z. z) (λ N. absurd (let x : 0 < n * m = mul-pos N M in let y : ⊥ = omega arith in y)) (eq-zero-or-pos n)

  below_most : (s t u : Bool) → T (below s (a * q) t (b * p)) → T (below t (b * r) u (c * q) || level t (b * r) u (c * q)) → T (below s (a * r) u (c * p))
  below_most false true u h k = absurd h
  below_most false false false h k = lt→ltb (a * r) (c * p) (rising (ltb→lt (a * q) (b * p) h) (at_most (b * r) (c * q) true k))
  below_most false false true h k =
      let B : 0 < b = first_pos b p (let l : a * q < b * p = ltb→lt (a * q) (b * p) h in omega arith) in
      let z : b * r ≡ 0 = (both_zero (b * r) (c * q) k).0 in
      let x : 0 < b * r = mul-pos B R in
      absurd (let y : ⊥ = omega arith in y)
  below_most true true true h k = lt→ltb (c * p) (a * r) (falling (ltb→lt (b * p) (a * q) h) (at_least (b * r) (c * q) true k))
  below_most true true false h k =
      let A : 0 < a = first_pos a q (let l : b * p < a * q = ltb→lt (b * p) (a * q) h in omega arith) in
      let x : 0 < a * r = mul-pos A R in
      lt→ltb 0 (a * r + c * p) (omega arith)
  below_most true false false h k =
      let l : 0 < a * q + b * p = ltb→lt 0 (a * q + b * p) h in
      let m : b * r ≤ c * q = at_most (b * r) (c * q) true k in
      lt→ltb 0 (a * r + c * p)
      (⊎_elim
      (λ z.
      let w : a * q ≡ 0 = ap (λ (n : ℕ). n * q) z ∙ zero-mul q in
      let B : 0 < b = first_pos b p (omega arith) in
      let x : 0 < b * r = mul-pos B R in
      let C : 0 < c = first_pos c q (omega arith) in
      let y : 0 < c * p = mul-pos C P in
      omega arith)
      (λ A. let x : 0 < a * r = mul-pos A R in omega arith)
      (eq-zero-or-pos a))
  below_most true false true h k =
      let l : 0 < a * q + b * p = ltb→lt 0 (a * q + b * p) h in
      let z = both_zero (b * r) (c * q) k in
      let w : b * p ≡ 0 = ap (λ (n : ℕ). n * p) (zero_of b r R z.0) ∙ zero-mul p in
      let v : c * p ≡ 0 = ap (λ (n : ℕ). n * p) (zero_of c q Q z.1) ∙ zero-mul p in
      let A : 0 < a = first_pos a q (omega arith) in
      let x : 0 < a * r = mul-pos A R in
      lt→ltb (c * p) (a * r) (omega arith)

-- ---- what is below y is below all that y is at most
pub lt_le : (x y z : Float) → T (lt x y) → T (le y z) → T (lt x z)
unfolding lt le eq
lt_le nan y z h k = absurd h
lt_le (inf s) nan z h k = absurd h
lt_le (inf s) (inf t) nan h k = absurd k
lt_le (inf false) (inf t) (inf u) h k = absurd h
lt_le (inf true) (inf true) (inf u) h k = absurd h
lt_le (inf true) (inf false) (inf true) h k = absurd k
lt_le (inf true) (inf false) (inf false) h k = tt
lt_le (inf false) (inf t) (fin u o f) h k = absurd h
lt_le (inf true) (inf t) (fin u o f) h k = tt
lt_le (inf s) (fin t n d) nan h k = absurd k
lt_le (inf false) (fin t n d) (inf u) h k = absurd h
lt_le (inf true) (fin t n d) (inf true) h k = absurd k
lt_le (inf true) (fin t n d) (inf false) h k = tt
lt_le (inf s) (fin t n d) (fin u o f) h k = h
lt_le (fin s m e) nan z h k = absurd h
lt_le (fin s m e) (inf t) nan h k = absurd k
lt_le (fin s m e) (inf true) (inf u) h k = absurd h
lt_le (fin s m e) (inf false) (inf true) h k = absurd k
lt_le (fin s m e) (inf false) (inf false) h k = tt
lt_le (fin s m e) (inf true) (fin u o f) h k = absurd h
lt_le (fin s m e) (inf false) (fin u o f) h k = absurd k
lt_le (fin s m e) (fin t n d) nan h k = absurd k
lt_le (fin s m e) (fin t n d) (inf true) h k = absurd k
lt_le (fin s m e) (fin t n d) (inf false) h k = tt
lt_le (fin s m e) (fin t n d) (fin u o f) h k =
    below_most (m * up e) (n * up d) (o * up f) (down e) (down d) (down f) (down_pos e) (down_pos d) (down_pos f) s t u h k

-- ---- "at most" by either part
pub le_of_lt : (x y : Float) → T (lt x y) → T (le x y)
unfolding le
le_of_lt x y h = rw (held (lt x y) h) tt

pub le_of_eq : (x y : Float) → T (eq x y) → T (le x y)
unfolding le
le_of_eq x y h = right (lt x y) h
  where
    right : (a : Bool) → T (eq x y) → T (a || eq x y)
    right true e = tt
    right false e = e

-- ---- what is below y does not equal y
unlevel : (s t : Bool) (a b : ℕ) → T (below s a t b) → T (level s a t b) → ⊥
unlevel false false a b h k =
    let l : a < b = ltb→lt a b h in
    let e : a ≡ b = eqb→eq a b (and_l (eqb a b) true k) in
    omega arith
unlevel false true a b h k = h
unlevel true false a b h k =
    let l : 0 < a + b = ltb→lt 0 (a + b) h in
    let z = both_zero a b k in
    omega arith
unlevel true true a b h k =
    let l : b < a = ltb→lt b a h in
    let e : a ≡ b = eqb→eq a b (and_l (eqb a b) true k) in
    omega arith

pub lt_unequal : (x y : Float) → T (lt x y) → eq x y ≡ false
unfolding lt eq
lt_unequal nan y h = refl
lt_unequal (inf s) nan h = refl
lt_unequal (inf false) (inf t) h = absurd h
lt_unequal (inf true) (inf true) h = absurd h
lt_unequal (inf true) (inf false) h = refl
lt_unequal (inf s) (fin t n d) h = refl
lt_unequal (fin s m e) nan h = refl
lt_unequal (fin s m e) (inf t) h = refl
lt_unequal (fin s m e) (fin t n d) h = refuted (level s (m * up e * down d) t (n * up d * down e)) (unlevel s t (m * up e * down d) (n * up d * down e) h)

-- ---- what is below y is not above it
not_below_itself : (x : Float) → T (lt x x) → ⊥
unfolding lt
not_below_itself nan h = h
not_below_itself (inf false) h = h
not_below_itself (inf true) h = h
not_below_itself (fin false m e) h = let l : m * up e * down e < m * up e * down e = ltb→lt (m * up e * down e) (m * up e * down e) h in omega arith
not_below_itself (fin true m e) h = let l : m * up e * down e < m * up e * down e = ltb→lt (m * up e * down e) (m * up e * down e) h in omega arith

pub lt_not_above : (x y : Float) → T (lt x y) → lt y x ≡ false
lt_not_above x y h = refuted (lt y x) (λ k. not_below_itself x (lt_le x y x h (le_of_lt y x k)))

pub above_unequal : (x y : Float) → T (lt y x) → eq x y ≡ false
above_unequal x y h = refuted (eq x y) (λ k. not_below_itself y (lt_le y x y h (le_of_eq x y k)))

pub equal_not_above : (x y : Float) → eq x y ≡ true → lt y x ≡ false
equal_not_above x y h = refuted (lt y x) (λ k. not_below_itself y (lt_le y x y k (le_of_eq x y (holds (eq x y) h))))

-- ---- of two numbers above a third one that neither is below the other nor equals it is above it
unequal : (a b : ℕ) (c : Bool) → T c → (eqb a b && c) ≡ false → a ≡ b → ⊥
unequal a b true u h e = let w : eqb a b ≡ true = held (eqb a b) (subst (λ (k : ℕ). T (eqb a k)) e (eqb_refl a)) in subst T (ap (λ (z : Bool). z && true) (sym w) ∙ h) tt
unequal a b false u h e = u

not_less : (a b : ℕ) → ltb a b ≡ false → b ≤ a
not_less a b h = nltb→le a b (rw h tt)

not_both_zero : (a b : ℕ) → (eqb a b && eqb a 0) ≡ false → 0 < a + b
not_both_zero a b h =
    ⊎_elim
    (λ z.
    let p : a ≡ 0 = omega arith in
    let q : a ≡ b = omega arith in
    absurd (unequal a b (eqb a 0) (subst (λ (k : ℕ). T (eqb k 0)) (sym p) (eqb_refl 0)) h q))
    (λ l. l)
    (eq-zero-or-pos (a + b))

other_way : (s t : Bool) (a b : ℕ) → below s a t b ≡ false → level s a t b ≡ false → T (below t b s a)
other_way false false a b h k =
    let m : b ≤ a = not_less a b h in
    let u : a ≡ b → ⊥ = unequal a b true tt k in
    lt→ltb b a (omega arith)
other_way false true a b h k = let l : 0 < a + b = not_both_zero a b k in lt→ltb 0 (b + a) (omega arith)
other_way true false a b h k =
    let l : 0 < a + b = not_both_zero a b k in
    let m : a + b ≤ 0 = not_less 0 (a + b) h in
    absurd (let z : ⊥ = omega arith in z)
other_way true true a b h k =
    let m : a ≤ b = not_less b a h in
    let u : a ≡ b → ⊥ = unequal a b true tt k in
    lt→ltb a b (omega arith)

nothing_below_nan : (a : Float) → T (lt a nan) → ⊥
unfolding lt
nothing_below_nan nan h = h
nothing_below_nan (inf s) h = h
nothing_below_nan (fin s m e) h = h

pub lt_otherwise : (a x y : Float) → T (lt a x) → T (lt a y) → lt x y ≡ false → eq x y ≡ false → T (lt y x)
unfolding lt eq
lt_otherwise a nan y h k l e = absurd (nothing_below_nan a h)
lt_otherwise a (inf s) nan h k l e = absurd (nothing_below_nan a k)
lt_otherwise a (fin s m d) nan h k l e = absurd (nothing_below_nan a k)
lt_otherwise a (inf false) (inf false) h k l e = subst T e tt
lt_otherwise a (inf false) (inf true) h k l e = tt
lt_otherwise a (inf true) (inf false) h k l e = subst T l tt
lt_otherwise a (inf true) (inf true) h k l e = subst T e tt
lt_otherwise a (inf false) (fin t n d) h k l e = tt
lt_otherwise a (inf true) (fin t n d) h k l e = subst T l tt
lt_otherwise a (fin s m c) (inf false) h k l e = subst T l tt
lt_otherwise a (fin s m c) (inf true) h k l e = tt
lt_otherwise a (fin s m c) (fin t n d) h k l e = other_way s t (m * up c * down d) (n * up d * down c) l e
