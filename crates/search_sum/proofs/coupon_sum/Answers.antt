-- `search_sum::coupon_sum` meets its contract. The loop's invariant: the terms left, added to the sum so far, give the whole sum. Assumes nothing.
use mathlib.Core.Path.{refl, ◌∙◌}
use Prim.Native.Nat.{◌+◌}
use native.Mathlib.Omega.{arith}
use borrow.Author.Rules.{rules}
use Rattle.search_sum.specs.Sum.{weighted_sum}
use Rattle.search_sum.proofs.Sums.{sum_on_lem, sum_on_two, sum_over}
use Rattle.search_sum.proofs.coupon_sum.Goals as goal

pub loop-i-init : goal.loop-i-init
loop-i-init c = (search rules, unfold weighted_sum in refl)

pub loop-i-preserved : goal.loop-i-preserved
loop-i-preserved c =
    (search rules, sum_on_two _ _ _ _ c.loop-i.i _ _ (omega arith) (omega arith) c.exp_two-e.ensures.0 c.exp_two-e.ensures.1 ∙ c.loop-i.invariant.1)

pub returns-then-i-n : goal.returns-then-i-n
returns-then-i-n c =
    sum_over _ _ _ _ (c.loop-i.i + 1) (omega arith) ∙ sum_on_lem _ _ _ _ c.loop-i.i _ (omega arith) (omega arith) c.exp-e.ensures.value ∙ c.loop-i.invariant.1

pub returns : goal.returns
returns c = sum_over _ _ _ _ c.loop-i.i (omega arith) ∙ c.loop-i.invariant.1
