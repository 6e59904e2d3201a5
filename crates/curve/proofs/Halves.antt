-- The search by halves of a strictly rising list: what a test at one place says of the places before it or after it, and where the scan finds what the search finds.
use Rattle.std.specs.Prelude.{Some}
use mathlib.Core.Path.{◌≡◌, refl, sym, ap, subst, ◌∙◌}
use mathlib.Core.Bool.{Bool, true, false}
use mathlib.Core.List.{List, [], ◌∷◌}
use mathlib.Core.Logic.{◌⊎◌, inl, inr, ⊎_elim}
use Prim.Native.Nat.{ℕ, zero, suc, ◌+◌, ◌-◌, ◌≤◌, ◌<◌, zero-le, suc-le-suc}
use native.Mathlib.Omega.{arith}
use native.Mathlib.Nat.{not-suc-le-zero, le_of_suc-le-suc, zero-lt-suc, eq-or-lt_of_le}
use lib.Dec.{T}
use lib.ListN.{length, get_or}
use lib.Ieee.{Float, nan, lt, le}
use Rattle.refusals.specs.Checks.{follows_of, in_order_from, in_order}
use Rattle.curve.specs.Lookups.{Front, Back, PartsAt, last_at, volatility_at}
use Rattle.curve.proofs.Walks.{volatility_first}
use Rattle.refusals.proofs.Order.{both, holds, held, refuted, lt_le, le_of_lt}

-- ---- in a strictly rising list the earlier number is below the later one
from_before : (before : Float) (xs : List Float) (k : ℕ) → in_order_from true before xs ≡ true → k < length xs → T (lt before (get_or xs k nan))
unfolding in_order_from
from_before before [] k h b = absurd (not-suc-le-zero b)
from_before before (x ∷ xs) zero h b = holds (lt before x) (both (lt before x) (in_order_from true x xs) h).0
from_before before (x ∷ xs) (suc k) h b =
    let r = both (lt before x) (in_order_from true x xs) h in
    lt_le before x (get_or xs k nan) (holds (lt before x) r.0) (le_of_lt x (get_or xs k nan) (from_before x xs k r.1 (le_of_suc-le-suc b)))

pub rest : (x : Float) (xs : List Float) → in_order_from true x xs ≡ true → in_order true xs ≡ true
unfolding in_order_from in_order
rest x [] h = refl
rest x (y ∷ xs) h = (both (lt x y) (in_order_from true y xs) h).1

pub rises : (xs : List Float) (i j : ℕ) → in_order true xs ≡ true → i < j → j < length xs → T (lt (get_or xs i nan) (get_or xs j nan))
unfolding in_order
rises [] i j h l b = absurd (not-suc-le-zero b)
rises (x ∷ xs) i zero h l b = absurd (not-suc-le-zero l)
rises (x ∷ xs) zero (suc j) h l b = from_before x xs j h (le_of_suc-le-suc b)
rises (x ∷ xs) (suc i) (suc j) h l b = rises xs i j (rest x xs h) (le_of_suc-le-suc l) (le_of_suc-le-suc b)

true_false : true ≡ false → ⊥
true_false h = let z : ◌≡◌ {A = ℕ} 0 1 = cc in omega arith

pub before_or_not : (k m : ℕ) → (k < m) ⊎ (m ≤ k)
before_or_not k zero = inr zero-le
before_or_not zero (suc m) = inl (zero-lt-suc m)
before_or_not (suc k) (suc m) = ⊎_elim (λ l. inl (suc-le-suc l)) (λ g. inr (suc-le-suc g)) (before_or_not k m)

-- ---- a step to t asks at least that the number is at most t, and it is passed by every number below t
step_le : (strictly : Bool) (x t : Float) → follows_of strictly x t ≡ true → T (le x t)
step_le true x t h = le_of_lt x t (holds (lt x t) h)
step_le false x t h = holds (le x t) h

lt_step : (strictly : Bool) (x t : Float) → T (lt x t) → follows_of strictly x t ≡ true
lt_step true x t h = held (lt x t) h
lt_step false x t h = held (le x t) (le_of_lt x t h)

-- ---- where the list parts: what one number shows of those before it, or of those behind it
pub front_none : (strictly : Bool) (xs : List Float) (t : Float) → Front strictly xs t 0
front_none strictly xs t k l = absurd (not-suc-le-zero l)

pub back_none : (strictly : Bool) (xs : List Float) (t : Float) (n : ℕ) → length xs ≤ n → Back strictly xs t n
back_none strictly xs t n h k l b = absurd (let z : ⊥ = omega arith in z)

module _ (strictly : Bool) (xs : List Float) (t : Float) (m : ℕ) (h : in_order true xs ≡ true) where
  pub front : m < length xs → follows_of strictly (get_or xs m nan) t ≡ true → Front strictly xs t (m + 1)
  front b q k l =
      ⊎_elim
      (λ e. rw e q)
      (λ s. lt_step strictly (get_or xs k nan) t (lt_le (get_or xs k nan) (get_or xs m nan) t (rises xs k m h s b) (step_le strictly (get_or xs m nan) t q)))
      (eq-or-lt_of_le (let w : k ≤ m = omega arith in w))

  pub back : follows_of strictly (get_or xs m nan) t ≡ false → Back strictly xs t m
  back q k l b =
      ⊎_elim
      (λ e. rw e at q)
      (λ s. refuted (follows_of strictly (get_or xs k nan) t) (λ w. true_false (sym (lt_step strictly (get_or xs m nan) t (lt_le (get_or xs m nan) (get_or xs k nan) t (rises xs m k h s b) (step_le strictly (get_or xs k nan) t (held (follows_of strictly (get_or xs k nan) t) w)))) ∙ q)))
      (eq-or-lt_of_le l)

pub front_last : (strictly : Bool) (xs : List Float) (t : Float) (n : ℕ) → in_order true xs ≡ true → (n ≡ 0 → ⊥) → n ≤ length xs → follows_of strictly (get_or xs (n - 1) nan) t ≡ true → Front strictly xs t n
front_last strictly xs t n h e b q =
    let m : n - 1 + 1 ≡ n = omega arith in
    let l : n - 1 < length xs = omega arith in
    subst (Front strictly xs t) m (front strictly xs t (n - 1) h l q)

-- ---- the last pillar that the scan passes is the last of those at or before t, else it is the first
abbrev last_of : Float → List Float → ℕ → Float
last_of best ss zero = best
last_of best ss (suc n) = get_or ss n nan

last_of_longer : (s best : Float) (ss : List Float) (n : ℕ) → last_of s ss n ≡ last_of best (s ∷ ss) (suc n)
last_of_longer s best ss zero = refl
last_of_longer s best ss (suc n) = refl

last_parted : (best : Float) (xs ss : List Float) (t : Float) (n : ℕ) → PartsAt false xs t n → n ≤ length ss → last_at best xs ss t ≡ last_of best ss n
unfolding last_at
last_parted best [] ss t zero p h = refl
last_parted best [] ss t (suc n) p h = absurd (not-suc-le-zero p.0)
last_parted best (x ∷ xs) [] t zero p h = refl
last_parted best (x ∷ xs) [] t (suc n) p h = absurd (not-suc-le-zero h)
last_parted best (x ∷ xs) (s ∷ ss) t zero p h =
    rw (p.2 0 zero-le (zero-lt-suc (length xs))) (last_parted best xs ss t zero (zero-le, front_none false xs t, λ k l b. p.2 (suc k) zero-le (suc-le-suc b)) zero-le)
last_parted best (x ∷ xs) (s ∷ ss) t (suc n) p h =
    rw (p.1 0 (zero-lt-suc n)) (last_parted s xs ss t n (le_of_suc-le-suc p.0, λ k l. p.1 (suc k) (suc-le-suc l), λ k l b. p.2 (suc k) (suc-le-suc l) (suc-le-suc b)) (le_of_suc-le-suc h) ∙ last_of_longer s best ss n)

pub volatility_parted : (xs ss : List Float) (t : Float) (n : ℕ) → PartsAt false xs t n → (length xs ≡ 0 → ⊥) → n - 1 < length ss → volatility_at xs ss t ≡ Some (get_or ss (n - 1) nan)
volatility_parted xs ss t zero p h b = volatility_first xs ss t h (λ e. omega arith) ∙ ap Some (last_parted (get_or ss 0 nan) xs ss t zero p zero-le)
volatility_parted xs ss t (suc n) p h b =
    let e : suc n - 1 ≡ n = omega arith in
    let l : suc n ≤ length ss = omega arith in
    rw e (volatility_first xs ss t h (λ e. omega arith) ∙ ap Some (last_parted (get_or ss 0 nan) xs ss t (suc n) p l))
