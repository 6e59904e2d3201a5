-- `ieee_chains::fixed::fixed_step` meets its contract: by the laws of the sum and of `settled`. Assumes nothing.
use Prim.Native.Nat.{ℕ, ◌+◌, ◌≤◌}
use native.Mathlib.Omega.{arith}
use Rattle.std.proofs.Common.{subst}
use lib.Ieee.{Float}
use Rattle.ieee_chains.specs.Fixed.{Held}
use Rattle.ieee_chains.proofs.Fixing.{upper_most, sum_is}
use Rattle.ieee_chains.proofs.fixed.fixed_step.Goals as goal

pub returns : goal.returns
returns c =
    let s = c.sum.result in
    let e = c.sum.ensures in
    record {
      most = go c.settled.result s.whole (c.args.a + c.args.c) c.settled.ensures.most (upper_most c.args.a c.args.y c.args.c s.whole c.ranges.y.fits e.0);
      value = λ g x z k few A Z C.
          subst (λ (w : Float). Held w c.settled.result g)
          (sum_is c.args.a c.args.y c.args.c s.whole s.sticky e.0 e.1 s.over g x z k few A Z C)
          (c.settled.ensures.value g few);
    }
  where
    go : (r h m : ℕ) → r ≤ h + 512 → h ≤ m → r ≤ m + 512
    go r h m p q = omega arith
