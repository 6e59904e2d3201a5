-- The factor at t, by the place at which the times part in those below t and the others: the scan of the definition is at that place or at the one before it.
use Rattle.std.specs.Prelude.{Option, Some, None}
use mathlib.Core.Path.{◌≡◌, refl, sym, ap, ◌∙◌}
use mathlib.Core.Bool.{Bool, true, false, cond, ◌&&◌}
use mathlib.Core.List.{List, [], ◌∷◌}
use mathlib.Core.Logic.{⊎_elim}
use Prim.Native.Nat.{ℕ, zero, suc, ◌+◌, ◌-◌, ◌≤◌, ◌<◌, zero-le, suc-le-suc}
use native.Mathlib.Omega.{arith}
use native.Mathlib.Nat.{not-suc-le-zero, zero-lt-suc}
use lib.Dec.{T}
use lib.ListN.{length, get_or, drop}
use lib.Ieee.{Float, nan, lt, eq}
use Rattle.refusals.specs.Checks.{in_order_from, in_order}
use Rattle.refusals.proofs.Order.{both, holds, held, refuted, lt_le, le_of_eq, lt_unequal, lt_not_above, equal_not_above, lt_otherwise}
use Rattle.refusals.proofs.Walks.{next, done}
use Rattle.curve.specs.Lookups.{Front, Back, PartsAt, if_finite, between_of, between_or, factor_at}
use Rattle.curve.proofs.Halves.{rest, rises, before_or_not}

no_factors : (ts : List Float) (t : Float) → factor_at ts [] t ≡ None
unfolding factor_at
no_factors [] t = refl
no_factors (x ∷ ts) t = refl

-- ---- a point is passed over whose neighbour is not above t
pub neighbour_not_above : (otherwise : Option Float) (t0 f0 : Float) (ts fs : List Float) (t : Float) → (0 < length ts → lt t (get_or ts 0 nan) ≡ false) → between_or otherwise t0 f0 ts fs t ≡ otherwise
unfolding between_or
neighbour_not_above otherwise t0 f0 [] fs t h = refl
neighbour_not_above otherwise t0 f0 (t1 ∷ ts) [] t h = refl
neighbour_not_above otherwise t0 f0 (t1 ∷ ts) (f1 ∷ fs) t h = ap (λ (b : Bool). cond b (if_finite (between_of t0 f0 t1 f1 t)) otherwise) (ap (λ (b : Bool). lt t0 t && b) (h (zero-lt-suc (length ts))) ∙ never (lt t0 t))
  where
    never : (b : Bool) → (b && false) ≡ false
    never true = refl
    never false = refl

passed : (t0 f0 : Float) (ts fs : List Float) (t : Float) → eq t0 t ≡ false → (0 < length ts → lt t (get_or ts 0 nan) ≡ false) → factor_at (t0 ∷ ts) (f0 ∷ fs) t ≡ factor_at ts fs t
unfolding factor_at
passed t0 f0 ts fs t e h = rw e (neighbour_not_above (factor_at ts fs t) t0 f0 ts fs t h)

-- of the times below t all but the last are passed over
skipped : (ts fs : List Float) (t : Float) (i : ℕ) → Front true ts t (suc i) → factor_at (drop i ts) (drop i fs) t ≡ factor_at ts fs t
unfolding factor_at
skipped ts fs t zero f = refl
skipped [] fs t (suc i) f = refl
skipped (x ∷ ts) [] t (suc i) f = no_factors (drop i ts) t
skipped (x ∷ ts) (y ∷ fs) t (suc i) f =
    skipped ts fs t i (λ k l. f (suc k) (suc-le-suc l))
    ∙ sym (passed x y ts fs t (lt_unequal x t (holds (lt x t) (f 0 (zero-lt-suc (suc i))))) (λ _. lt_not_above (get_or ts 0 nan) t (holds (lt (get_or ts 0 nan) t) (f 1 (suc-le-suc (zero-lt-suc i))))))

-- ---- at the last of the times below t
module _ (ts fs : List Float) (t : Float) (i : ℕ) (f : Front true ts t (suc i)) (h : i < length ts) where
  below : T (lt (get_or ts i nan) t)
  below = holds (lt (get_or ts i nan) t) (f i (suc-le-suc (let z : i ≤ i = omega arith in z)))

  last_below : i < length fs → factor_at ts fs t ≡ between_or (factor_at (drop (i + 1) ts) (drop (i + 1) fs) t) (get_or ts i nan) (get_or fs i nan) (drop (i + 1) ts) (drop (i + 1) fs) t
  unfolding factor_at
  last_below k = sym (skipped ts fs t i f) ∙ rw (next ts i h, next fs i k, lt_unequal (get_or ts i nan) t below)

  short : length fs ≤ i → factor_at ts fs t ≡ None
  unfolding factor_at
  short k = sym (skipped ts fs t i f) ∙ rw (next ts i h, done fs i k)

-- ---- at the place where the times part
pub after_last : (ts fs : List Float) (t : Float) (n : ℕ) → PartsAt true ts t n → length ts ≤ n → factor_at ts fs t ≡ None
unfolding factor_at between_or
after_last [] fs t n p h = refl
after_last (x ∷ ts) fs t zero p h = absurd (not-suc-le-zero h)
after_last (x ∷ ts) fs t (suc i) p h =
    ⊎_elim
    (λ l. last_below (x ∷ ts) fs t i p.1 p.0 l ∙ rw (done (x ∷ ts) (i + 1) (let z : length (x ∷ ts) ≤ i + 1 = omega arith in z)))
    (λ m. short (x ∷ ts) fs t i p.1 p.0 m)
    (before_or_not i (length fs))

pub no_factor : (ts fs : List Float) (t : Float) (n : ℕ) → PartsAt true ts t n → n < length ts → length fs ≤ n → factor_at ts fs t ≡ None
unfolding factor_at between_or
no_factor ts [] t n p h k = no_factors ts t
no_factor ts (y ∷ fs) t zero p h k = absurd (not-suc-le-zero k)
no_factor ts (y ∷ fs) t (suc i) p h k =
    ⊎_elim
    (λ l. last_below ts (y ∷ fs) t i p.1 p.0 l ∙ rw (next ts (i + 1) (let z : i + 1 < length ts = omega arith in z), done (y ∷ fs) (i + 1) (let z : length (y ∷ fs) ≤ i + 1 = omega arith in z)))
    (λ m. short ts (y ∷ fs) t i p.1 p.0 m)
    (before_or_not i (length (y ∷ fs)))

pub on_list : (ts fs : List Float) (t : Float) (n : ℕ) → PartsAt true ts t n → n < length ts → n < length fs → eq (get_or ts n nan) t ≡ true → factor_at ts fs t ≡ Some (get_or fs n nan)
unfolding factor_at
on_list [] fs t n p h k e = absurd (not-suc-le-zero h)
on_list (x ∷ ts) [] t n p h k e = absurd (not-suc-le-zero k)
on_list (x ∷ ts) (y ∷ fs) t zero p h k e = rw e
on_list (x ∷ ts) (y ∷ fs) t (suc i) p h k e =
    let a : i + 1 < length (x ∷ ts) = omega arith in
    let b : i + 1 < length (y ∷ fs) = omega arith in
    let q : suc i ≡ i + 1 = omega arith in
    let first : lt t (get_or (drop (i + 1) (x ∷ ts)) 0 nan) ≡ false = rw (next (x ∷ ts) (i + 1) a, ← q) (equal_not_above (get_or (x ∷ ts) (suc i) nan) t e) in
    last_below (x ∷ ts) (y ∷ fs) t i p.1 p.0 (let z : i < length (y ∷ fs) = omega arith in z)
    ∙ neighbour_not_above (factor_at (drop (i + 1) (x ∷ ts)) (drop (i + 1) (y ∷ fs)) t) (get_or (x ∷ ts) i nan) (get_or (y ∷ fs) i nan) (drop (i + 1) (x ∷ ts)) (drop (i + 1) (y ∷ fs)) t (λ _. first)
    ∙ rw (next (x ∷ ts) (i + 1) a, next (y ∷ fs) (i + 1) b, ← q, e)

point_not_below : (otherwise : Option Float) (t0 f0 : Float) (ts fs : List Float) (t : Float) → lt t0 t ≡ false → between_or otherwise t0 f0 ts fs t ≡ otherwise
unfolding between_or
point_not_below otherwise t0 f0 [] fs t h = refl
point_not_below otherwise t0 f0 (t1 ∷ ts) [] t h = refl
point_not_below otherwise t0 f0 (t1 ∷ ts) (f1 ∷ fs) t h = rw h

later_unequal : (x : Float) (ts : List Float) (t : Float) → in_order_from true x ts ≡ true → lt x t ≡ false → eq (get_or ts 0 nan) t ≡ false
unfolding eq in_order_from
later_unequal x [] t h l = refl
later_unequal x (y ∷ ts) t h l = refuted (eq y t) (λ e. let z = lt_le x y t (holds (lt x y) (both (lt x y) (in_order_from true y ts) h).0) (le_of_eq y t e) in rw l at z)

pub before_first : (ts fs : List Float) (t : Float) → in_order true ts ≡ true → Back true ts t 0 → eq (get_or ts 0 nan) t ≡ false → factor_at ts fs t ≡ None
unfolding factor_at in_order
before_first [] fs t h b e = refl
before_first (x ∷ ts) [] t h b e = refl
before_first (x ∷ ts) (y ∷ fs) t h b e =
    let l = b 0 zero-le (zero-lt-suc (length ts)) in
    rw e (point_not_below (factor_at ts fs t) x y ts fs t l ∙ before_first ts fs t (rest x ts h) (λ k m n. b (suc k) zero-le (suc-le-suc n)) (later_unequal x ts t h l))

pub between_two : (ts fs : List Float) (t : Float) (n : ℕ) → in_order true ts ≡ true → PartsAt true ts t n → (n ≡ 0 → ⊥) → n < length ts → n < length fs → eq (get_or ts n nan) t ≡ false → factor_at ts fs t ≡ if_finite (between_of (get_or ts (n - 1) nan) (get_or fs (n - 1) nan) (get_or ts n nan) (get_or fs n nan) t)
unfolding factor_at between_or
between_two ts fs t zero o p z h k e = absurd (z refl)
between_two ts fs t (suc i) o p z h k e =
    let a : i + 1 < length ts = omega arith in
    let b : i + 1 < length fs = omega arith in
    let q : suc i ≡ i + 1 = omega arith in
    let r : suc i - 1 ≡ i = omega arith in
    let s = below ts fs t i p.1 p.0 in
    let u : T (lt t (get_or ts (i + 1) nan)) = rw (← q) (lt_otherwise (get_or ts i nan) (get_or ts (suc i) nan) t (rises ts i (suc i) o (let z : i < suc i = omega arith in z) h) s (p.2 (suc i) (let z : suc i ≤ suc i = omega arith in z) h) e) in
    last_below ts fs t i p.1 p.0 (let z : i < length fs = omega arith in z)
    ∙ rw (next ts (i + 1) a, next fs (i + 1) b, held (lt (get_or ts i nan) t) s, held (lt t (get_or ts (i + 1) nan)) u, r, q)
