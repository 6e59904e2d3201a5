-- The weighted sum, a term at a time: what is left of two lists is added to a sum. Assumes nothing.
use mathlib.Core.Path.{◌≡◌, refl, ◌∙◌}
use mathlib.Core.Bool.{Bool, true, false}
use mathlib.Core.List.{List, [], ◌∷◌}
use Prim.Native.Nat.{ℕ, ◌+◌, ◌≤◌, ◌<◌, min}
use native.Mathlib.Numerals.{add-one}
use native.Mathlib.Omega.{arith}
use borrow.Author.Tests.{ltb-true, ltb-false}
use lib.Dec.{ltb}
use lib.ListN.{length, drop, get_or, drop_of_length-le}
use lib.Seq.{drop-cons}
use lib.Ieee.{Float, nan, neg}
use Rattle.ieee.specs.Rounded.{◌⊕◌, ◌⊗◌}
use Rattle.math_exponential.specs.Exp.{exp_of}
use Rattle.search_sum.specs.Sum.{weighted_onto}

onto_none : (sum : Float) (ws : List Float) (rate : Float) → weighted_onto sum ws [] rate ≡ sum
unfolding weighted_onto
onto_none sum [] rate = refl
onto_none sum (w ∷ ws) rate = refl

module _ (ws bs : List Float) (rate sum : Float) (i : ℕ) where
  pub sum_on_lem : (e : Float) → i < length ws → i < length bs → e ≡ exp_of (neg (get_or bs i nan) ⊗ rate)
      → weighted_onto (sum ⊕ get_or ws i nan ⊗ e) (drop (i + 1) ws) (drop (i + 1) bs) rate ≡ weighted_onto sum (drop i ws) (drop i bs) rate
  unfolding weighted_onto
  sum_on_lem e h k p = rw (add-one, drop-cons ws i nan h, drop-cons bs i nan k, p)

  sum_short : length bs ≤ i → sum ≡ weighted_onto sum (drop i ws) (drop i bs) rate
  sum_short h = rw (drop_of_length-le bs h, onto_none)

  sum_done : length ws ≤ i → sum ≡ weighted_onto sum (drop i ws) (drop i bs) rate
  unfolding weighted_onto
  sum_done h = rw (drop_of_length-le ws h)

  pub sum_over : min (length ws) (length bs) ≤ i → sum ≡ weighted_onto sum (drop i ws) (drop i bs) rate
  sum_over h = go (ltb (length ws) (length bs)) refl
    where
      go : (t : Bool) → ltb (length ws) (length bs) ≡ t → sum ≡ weighted_onto sum (drop i ws) (drop i bs) rate
      go true e = sum_done (omega (arith, ltb-true (length ws) (length bs) e))
      go false e = sum_short (omega (arith, ltb-false (length ws) (length bs) e))

-- two terms, the first and then the second
pub sum_on_two : (ws bs : List Float) (rate sum : Float) (i : ℕ) (e f : Float) → i + 1 < length ws → i + 1 < length bs → e ≡ exp_of (neg (get_or bs i nan) ⊗ rate) → f ≡ exp_of (neg (get_or bs (i + 1) nan) ⊗ rate)
    → weighted_onto (sum ⊕ get_or ws i nan ⊗ e ⊕ get_or ws (i + 1) nan ⊗ f) (drop (i + 2) ws) (drop (i + 2) bs) rate ≡ weighted_onto sum (drop i ws) (drop i bs) rate
sum_on_two ws bs rate sum i e f h k p q =
    let next : i + 2 ≡ i + 1 + 1 = omega arith in
    rw next (sum_on_lem ws bs rate (sum ⊕ get_or ws i nan ⊗ e) (i + 1) f h k q ∙ sum_on_lem ws bs rate sum i e (omega arith) (omega arith) p)
