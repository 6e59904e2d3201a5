-- `search::ladder::climb` meets its contract: each way out of the loop is what the ladder of 61 rungs comes to. Assumes nothing.
use Rattle.std.proofs.Common.{rules, sym, ◌∙◌, arith}
use Rattle.search.proofs.LadderSteps.{ladder_zero, at_nan, at_good, at_last, at_next, next_rate}
use Rattle.search.proofs.ladder.climb.Goals as goal

pub loop-sum-init : goal.loop-sum-init
loop-sum-init c = (search rules, c.first_rate-rate.ensures, ladder_zero _ _)

pub returns-then-is_nan : goal.returns-then-is_nan
returns-then-is_nan c =
    let at = c.loop-sum.invariant in
    at_nan _ _ _ _ _ at.1 c.coupon_sum-sum.ensures at.2 (omega (arith, at.0)) c.if-is_nan.true

pub returns-then-is_good : goal.returns-then-is_good
returns-then-is_good c =
    let at = c.loop-sum.invariant in
    at_good _ _ _ _ _ at.1 c.coupon_sum-sum.ensures at.2 (omega (arith, at.0)) c.if-is_nan.false (sym c.is_good.ensures ∙ c.if-is_good.true)

pub returns-then-number-eq-LAST_RUNG : goal.returns-then-number-eq-LAST_RUNG
returns-then-number-eq-LAST_RUNG c =
    let at = c.loop-sum.invariant in
    at_last _ _ _ _ _ at.1 c.coupon_sum-sum.ensures at.2 c.if-number-eq-LAST_RUNG.true c.if-is_nan.false (sym c.is_good.ensures ∙ c.if-is_good.false)

pub loop-sum-preserved : goal.loop-sum-preserved
loop-sum-preserved c =
    let at = c.loop-sum.invariant in
    let bad = sym c.is_good.ensures ∙ c.if-is_good.false in
    let step = c.if-number-eq-LAST_RUNG.false in
    (omega (arith, at.0, step), next_rate _ _ _ (omega (arith, at.0)) at.1, at_next _ _ _ _ _ at.1 c.coupon_sum-sum.ensures at.2 c.if-is_nan.false bad)
