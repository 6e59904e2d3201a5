-- Of a test `a || b`: what makes it hold. The `≤` of f64 is one, a less-than or an equal: on natural numbers it is a ≤ b. Assumes nothing.
use mathlib.Core.Path.{◌≡◌}
use mathlib.Core.Logic.{inl, inr}
use mathlib.Core.Bool.{Bool, true, false, ◌&&◌, ◌||◌}
use Prim.Native.Nat.{ℕ, ◌<◌, ◌≤◌}
use native.Mathlib.Omega.{arith}
use native.Mathlib.Nat.{le_of_eq, eq-or-lt_of_le}
use borrow.Author.Tests.{eq-eqb}
use lib.Dec.{T, ltb, eqb, ltb→lt, lt→ltb, eqb→eq}

pub or_l : (a b : Bool) → T a → T (a || b)
or_l true b t = tt
or_l false b t = absurd t

pub or_r : (a b : Bool) → T b → T (a || b)
or_r true b t = tt
or_r false b t = t

pub or_le : (a b : ℕ) (t : Bool) → T (ltb a b || (eqb a b && t)) → a ≤ b
or_le a b t h = go (ltb a b) (eqb a b) (ltb→lt a b) (eqb→eq a b) h
  where
    go : (x y : Bool) → (T x → a < b) → (T y → a ≡ b) → T (x || (y && t)) → a ≤ b
    go true y p q u = omega (arith, p tt)
    go false true p q u = le_of_eq (q tt)
    go false false p q u = absurd u

pub le_or : (a b : ℕ) → a ≤ b → T (ltb a b || (eqb a b && true))
le_or a b h = elim (eq-or-lt_of_le h) [ inl p ↦ or_r (ltb a b) (eqb a b && true) (rw (eq-eqb a b p) tt) | inr q ↦ or_l (ltb a b) (eqb a b && true) (lt→ltb a b q) ]
