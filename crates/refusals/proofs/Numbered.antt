-- A refusal's number is its own: none is 0, all can be printed in 20 digits, and the number tells the refusal. Assumes nothing.
use mathlib.Core.Path.{◌≡◌, refl, sym, ap, ◌∙◌}
use mathlib.Core.Bool.{cond}
use Prim.Native.Nat.{ℕ, ◌<◌, ◌^◌}
use native.Mathlib.Omega.{arith}
use lib.Dec.{eqb, lit<}
use Rattle.refusals.specs.declared.refusals.Refusal.{Refusal}
use Rattle.refusals.specs.declared.refusals.Refusal.TheVariants as R
use Rattle.refusals.specs.Refusals.{number_of}

-- the refusal with a number
abbrev pub refusal_of : ℕ → Refusal
refusal_of n =
    cond (eqb n 1) R.Size
    (cond (eqb n 2) R.NotFinite
    (cond (eqb n 3) R.MeanReversion
    (cond (eqb n 4) R.Order
    (cond (eqb n 5) R.Times
    (cond (eqb n 6) R.Domain
    (cond (eqb n 14) R.ZeroSeed
    (cond (eqb n 7) R.Empty
    (cond (eqb n 15) R.SeveralPillars
    (cond (eqb n 8) R.OffCurve
    (cond (eqb n 9) R.NanReached
    (cond (eqb n 10) R.NoBracket
    (cond (eqb n 11) R.FlatDerivative
    (cond (eqb n 12) R.NoSignChange R.Overflow)))))))))))))

pub record Numbered (r : Refusal) : Type 0 where
  pub above : 0 < number_of r
  pub within : number_of r < 10 ^ 20
  pub back : refusal_of (number_of r) ≡ r

pub numbered : (r : Refusal) → Numbered r
numbered R.Size = record { above = omega arith; within = lit< tt; back = refl }
numbered R.NotFinite = record { above = omega arith; within = lit< tt; back = refl }
numbered R.MeanReversion = record { above = omega arith; within = lit< tt; back = refl }
numbered R.Order = record { above = omega arith; within = lit< tt; back = refl }
numbered R.Times = record { above = omega arith; within = lit< tt; back = refl }
numbered R.Domain = record { above = omega arith; within = lit< tt; back = refl }
numbered R.ZeroSeed = record { above = omega arith; within = lit< tt; back = refl }
numbered R.Empty = record { above = omega arith; within = lit< tt; back = refl }
numbered R.SeveralPillars = record { above = omega arith; within = lit< tt; back = refl }
numbered R.OffCurve = record { above = omega arith; within = lit< tt; back = refl }
numbered R.NanReached = record { above = omega arith; within = lit< tt; back = refl }
numbered R.NoBracket = record { above = omega arith; within = lit< tt; back = refl }
numbered R.FlatDerivative = record { above = omega arith; within = lit< tt; back = refl }
numbered R.NoSignChange = record { above = omega arith; within = lit< tt; back = refl }
numbered R.Overflow = record { above = omega arith; within = lit< tt; back = refl }

pub one_number : (q r : Refusal) → number_of q ≡ number_of r → q ≡ r
one_number q r e = sym (numbered q).back ∙ ap refusal_of e ∙ (numbered r).back
