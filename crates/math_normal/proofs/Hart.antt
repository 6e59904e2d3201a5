-- Hart's quotient, by a step that keeps the order: the numerator stays below the denominator, coefficient by coefficient.
use mathlib.Core.Bool.{Bool, true, false, ◌&&◌}
use mathlib.Core.List.{List, [], ◌∷◌}
use Prim.Native.Nat.{◌*◌}
use native.Mathlib.Nat.{le_refl}
use lib.Dec.{T}
use lib.Ieee.{Float, nan, inf, fin, binary64, add, mul, le}
use lib.Ieee.Fits.{and_l, and_r, and_i}
use lib.Ieee.Positive.{num, den}
use Rattle.math_hart.specs.Polynomials.{horner, product_then_sum}
use Rattle.math_normal.proofs.NonNeg.{nn, shape, Below, cross→le, mul_below, add_below, mul_shape}

-- each coefficient is no more than the other list's
abbrev pub lower : List Float → List Float → Bool
lower [] [] = true
lower [] (d ∷ ds) = false
lower (c ∷ cs) [] = false
lower (c ∷ cs) (d ∷ ds) = (nn c && le c d) && (nn d && lower cs ds)

pub below_self : (x : Float) → T (nn x) → Below x x
below_self x p = record { is = p; le = cross→le x x p p (le_refl (num x * den x)) }

-- the step keeps the order, up to a finite result
pub record Orderly (step : Float → Float → Float → Float) : Type 0 where
  pub mono : (a a' z z' c c' : Float) → T (nn a') → T (nn z') → T (nn c') → Below a a' → Below z z' → Below c c' → T (nn (step a' z' c')) → Below (step a z c) (step a' z' c')

abbrev pub chain : (Float → Float → Float → Float) → Float → Float → List Float → Bool
chain step z a [] = nn a
chain step z a (c ∷ cs) = nn a && chain step z (step a z c) cs

pub chain_first : (step : Float → Float → Float → Float) (z a : Float) (cs : List Float) → T (chain step z a cs) → T (nn a)
chain_first step z a [] h = h
chain_first step z a (c ∷ cs) h = and_l (nn a) (chain step z (step a z c) cs) h

module _ (step : Float → Float → Float → Float) (orderly : Orderly step) where
  pub horner_below : (z z' a a' : Float) (cs ds : List Float) → T (nn z') → Below z z' → Below a a' → T (lower cs ds) → T (chain step z' a' ds) → T (chain step z a cs) × Below (horner step z a cs) (horner step z' a' ds)
  horner_below z z' a a' [] [] p h k l c = (k.is, k)
  horner_below z z' a a' [] (d ∷ ds) p h k l c = absurd l
  horner_below z z' a a' (c ∷ cs) [] p h k l w = absurd l
  horner_below z z' a a' (c ∷ cs) (d ∷ ds) p h k l w =
      let na : T (nn a') = and_l (nn a') (chain step z' (step a' z' d) ds) w in
      let rest : T (chain step z' (step a' z' d) ds) = and_r (nn a') (chain step z' (step a' z' d) ds) w in
      let l1 : T (nn c && le c d) = and_l (nn c && le c d) (nn d && lower cs ds) l in
      let l2 : T (nn d && lower cs ds) = and_r (nn c && le c d) (nn d && lower cs ds) l in
      let nd : T (nn d) = and_l (nn d) (lower cs ds) l2 in
      let b : Below c d = record { is = and_l (nn c) (le c d) l1; le = and_r (nn c) (le c d) l1 } in
      let s : Below (step a z c) (step a' z' d) = orderly.mono a a' z z' c d na p nd k h b (chain_first step z' (step a' z' d) ds rest) in
      let r = horner_below z z' (step a z c) (step a' z' d) cs ds p h s (and_r (nn d) (lower cs ds) l2) rest in
      (and_i (nn a) (chain step z (step a z c) cs) k.is r.0, r.1)

-- ---- the step with two roundings
sum_first : (y c : Float) → T (shape y) → T (nn (add binary64 y c)) → T (nn y)
unfolding add
sum_first nan c s h = absurd h
sum_first (inf true) c s h = absurd s
sum_first (inf false) nan s h = absurd h
sum_first (inf false) (inf true) s h = absurd h
sum_first (inf false) (inf false) s h = absurd h
sum_first (inf false) (fin t n d) s h = absurd h
sum_first (fin true m e) c s h = absurd s
sum_first (fin false m e) c s h = tt

pub twice_orderly : Orderly product_then_sum
twice_orderly = record {
  mono = λ a a' z z' c c' na nz nc ka kz kc s.
      let m : T (nn (mul binary64 a' z')) = sum_first (mul binary64 a' z') c' (mul_shape binary64 a' z' na nz) s in
      add_below binary64 (mul binary64 a z) (mul binary64 a' z') c c' m nc (mul_below binary64 a a' z z' na nz ka kz m) kc s;
}
