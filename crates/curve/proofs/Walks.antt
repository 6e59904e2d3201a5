-- One turn and the end of a walk along a list: what each definition of specs/ says of the list from place i on.
use Rattle.std.specs.Prelude.{Some, None}
use mathlib.Core.Path.{◌≡◌, refl}
use mathlib.Core.Bool.{true, false, cond}
use mathlib.Core.List.{List, [], ◌∷◌, ◌++◌, append-nil, append_assoc}
use Prim.Native.Nat.{ℕ, ◌+◌, ◌≤◌, ◌<◌}
use native.Mathlib.Omega.{arith}
use native.Mathlib.Numerals.{add-one}
use lib.ListN.{length, get_or, drop, take}
use lib.Seq.{take-suc}
use lib.Ieee.{Float, nan, le}
use Rattle.refusals.proofs.Walks.{next, done}
use Rattle.curve.specs.Lookups.{last_at, volatility_at, up_to}

-- ---- the front part up to t
module _ (t : Float) (xs : List Float) (i : ℕ) where
  pub front_turn : i < length xs → le (get_or xs i nan) t ≡ true → take i xs ++ up_to t (drop i xs) ≡ take (i + 1) xs ++ up_to t (drop (i + 1) xs)
  unfolding up_to
  front_turn h q = rw (next xs i h, q, add-one, take-suc xs i nan, append_assoc)

  pub front_stop : i < length xs → le (get_or xs i nan) t ≡ false → take i xs ++ up_to t (drop i xs) ≡ take i xs
  unfolding up_to
  front_stop h q = rw (next xs i h, q, append-nil)

  pub front_end : length xs ≤ i → take i xs ++ up_to t (drop i xs) ≡ take i xs
  unfolding up_to
  front_end h = rw (done xs i h, append-nil)

-- ---- the last pillar at or before a time
module _ (best : Float) (xs ss : List Float) (t : Float) (i : ℕ) where
  pub last_turn : i < length xs → i < length ss → last_at best (drop i xs) (drop i ss) t ≡ last_at (cond (le (get_or xs i nan) t) (get_or ss i nan) best) (drop (i + 1) xs) (drop (i + 1) ss) t
  unfolding last_at
  last_turn h k = rw (next xs i h, next ss i k)

  pub last_short : i < length xs → length ss ≤ i → last_at best (drop i xs) (drop i ss) t ≡ best
  unfolding last_at
  last_short h k = rw (next xs i h, done ss i k)

  pub last_end : length xs ≤ i → last_at best (drop i xs) (drop i ss) t ≡ best
  unfolding last_at
  last_end h = rw (done xs i h)

pub volatility_first : (xs ss : List Float) (t : Float) → (length xs ≡ 0 → ⊥) → (length ss ≡ 0 → ⊥) → volatility_at xs ss t ≡ Some (last_at (get_or ss 0 nan) xs ss t)
unfolding volatility_at
volatility_first [] ss t h k = absurd (h refl)
volatility_first (x ∷ xs) [] t h k = absurd (k refl)
volatility_first (x ∷ xs) (s ∷ ss) t h k = refl

pub volatility_none : (xs ss : List Float) (t : Float) → length xs ≡ 0 → volatility_at xs ss t ≡ None
unfolding volatility_at
volatility_none [] ss t h = refl
volatility_none (x ∷ xs) ss t h = absurd (let z : ⊥ = omega arith in z)

pub volatility_short : (xs ss : List Float) (t : Float) → length ss ≡ 0 → volatility_at xs ss t ≡ None
unfolding volatility_at
volatility_short [] ss t h = refl
volatility_short (x ∷ xs) [] t h = refl
volatility_short (x ∷ xs) (s ∷ ss) t h = absurd (let z : ⊥ = omega arith in z)
