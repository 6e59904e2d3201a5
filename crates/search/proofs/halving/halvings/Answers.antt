-- `search::halving::halvings` meets its contract. The loop's invariant: the halvings made so far lead to this bracket. Assumes nothing.
use Rattle.std.proofs.Common.{◌∙◌}
use Rattle.std.proofs.lemmas.Result.{err_from_is_err_and}
use Rattle.search.proofs.HalvingSteps.{halvings_zero, nan_at, still_at, on_at, end_at}
use Rattle.search.proofs.halving.halvings.Goals as goal

pub loop-init : goal.loop-init
loop-init c = halvings_zero _ _

pub returns-in_err-next : goal.returns-in_err-next
returns-in_err-next c =
    let p = err_from_is_err_and c.from_residual.result c.from_residual.ensures.1 in
    p.1 ∙ nan_at _ _ c.loop.counter _ c.loop.invariant c.loop-test.true _ c.in_err-next.ensures

pub returns-then-same_ends : goal.returns-then-same_ends
returns-then-same_ends c =
    let e = c.same_ends.ensures c.if-same_ends.true in
    still_at _ _ c.loop.counter _ c.loop.invariant c.loop-test.true _ c.in_ok-next.ensures e.0 e.1

pub loop-preserved : goal.loop-preserved
loop-preserved c = on_at _ _ c.loop.counter _ c.loop.invariant _ c.in_ok-next.ensures

pub returns : goal.returns
returns c = end_at _ _ c.loop.counter _ c.loop.invariant c.loop.auto.counter-end c.loop-test.false
