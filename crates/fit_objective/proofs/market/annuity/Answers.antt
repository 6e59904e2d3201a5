-- `fit_objective::market::annuity` meets its contract. The loop's invariant: the coupons left, added to the sum so far, give the whole annuity. Assumes nothing.
use mathlib.Core.Path.{◌∙◌}
use Rattle.std.proofs.lemmas.Slice.Zip.{either_empty_from_Zip}
use Rattle.fit_objective.proofs.Annuity.{annuity_begins, annuity_on, annuity_done}
use Rattle.fit_objective.proofs.market.annuity.Goals as goal

pub loop-accrual-init : goal.loop-accrual-init
loop-accrual-init c =
    let z = c.zip-accrual-items.ensures in
    let e = c.into_iter-accrual-iterator.ensures.into_iter_gives in
    annuity_begins (rw (e, z.first) c.iter.ensures.rest) (rw e z.second.0)

pub loop-accrual-preserved : goal.loop-accrual-preserved
loop-accrual-preserved c = let s = c.in-Some.ensures.steps in annuity_on _ s.0 s.1 c.annuity_step-sum.ensures ∙ c.loop-accrual.invariant

pub returns : goal.returns
returns c = annuity_done _ _ _ (either_empty_from_Zip c.loop-accrual.accrual-iterator c.next.new.self _ c.in-None.is c.next.ensures.steps) ∙ c.loop-accrual.invariant
