-- A test of the numbers below n, computed once, and the law that turns it into each. Assumes nothing.
use mathlib.Core.Path.{◌≡◌, subst}
use Prim.Native.Nat.{ℕ, zero, suc, ◌≤◌, ◌<◌}
use native.Mathlib.Decide.{dec_lt}
use native.Mathlib.Omega.{arith}
use mathlib.Core.Bool.{Bool, true, ◌&&◌}
use lib.Dec.{T}
use lib.Ieee.Fits.{and_l, and_r}

unfoldable pub every : (ℕ → Bool) → ℕ → Bool
every p zero = true
every p (suc n) = p n && every p n

pub every_at : (p : ℕ → Bool) (n i : ℕ) → T (every p n) → i < n → T (p i)
unfolding every
every_at p zero i h l = absurd (omega arith)
every_at p (suc n) i h l =
    elim (dec_lt i n) [
      | yes k ↦ every_at p n i (and_r (p n) (every p n) h) k
      | no k ↦ subst (λ (j : ℕ). T (p j)) (last (omega arith)) (and_l (p n) (every p n) h)
    ]
  where
    last : n ≤ i → n ≡ i
    last k = omega arith
