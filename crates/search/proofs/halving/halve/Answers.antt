-- `search::halving::halve` meets its contract. Assumes nothing.
use Rattle.search.proofs.HalvingSteps.{halve_nan, halve_raised, halve_lowered}
use Rattle.search.proofs.halving.halve.Goals as goal

pub returns-then-sum : goal.returns-then-sum
returns-then-sum c = halve_nan _ _ _ _ c.midpoint-rate.ensures c.coupon_sum-sum.ensures c.if-sum.true

pub returns-then-sum-2 : goal.returns-then-sum-2
returns-then-sum-2 c = halve_raised _ _ _ _ c.midpoint-rate.ensures c.coupon_sum-sum.ensures c.if-sum.false c.if-sum-2.true

pub returns-else-sum-2 : goal.returns-else-sum-2
returns-else-sum-2 c = halve_lowered _ _ _ _ c.midpoint-rate.ensures c.coupon_sum-sum.ensures c.if-sum.false c.if-sum-2.false
