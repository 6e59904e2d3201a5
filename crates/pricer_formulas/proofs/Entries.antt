-- The length and the entries of A of each term. Assumes nothing.
use mathlib.Core.Path.{◌≡◌, refl, ap}
use mathlib.Core.List.{List, [], ◌∷◌}
use Prim.Native.Nat.{ℕ, zero, suc, ◌<◌}
use native.Mathlib.Omega.{arith}
use native.Mathlib.Nat.{not-suc-le-zero, le_of_suc-le-suc}
use lib.ListN.{length, get_or}
use lib.Ieee.{Float, nan}
use Rattle.pricer_formulas.specs.Affine.{affine_aOf, affine_aList_of}

module _ (variance forward pt : Float) where
  pub affines_length : (bs ps : List Float) → length ps ≡ length bs → length (affine_aList_of variance forward pt bs ps) ≡ length bs
  unfolding affine_aList_of
  affines_length [] ps e = refl
  affines_length (b ∷ bs) [] e = e
  affines_length (b ∷ bs) (p ∷ ps) e = ap suc (affines_length bs ps (omega arith))

  pub affines_at : (bs ps : List Float) (i : ℕ) → length ps ≡ length bs → i < length bs → get_or (affine_aList_of variance forward pt bs ps) i nan ≡ affine_aOf variance forward pt (get_or bs i nan) (get_or ps i nan)
  unfolding affine_aList_of
  affines_at [] ps i e h = absurd (not-suc-le-zero h)
  affines_at (b ∷ bs) [] i e h = absurd (let z : ⊥ = omega arith in z)
  affines_at (b ∷ bs) (p ∷ ps) zero e h = refl
  affines_at (b ∷ bs) (p ∷ ps) (suc i) e h = affines_at bs ps i (omega arith) (le_of_suc-le-suc h)
