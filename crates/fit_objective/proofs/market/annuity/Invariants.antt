-- `fit_objective::market::annuity` meets its contract. The loop's invariant: the coupons left, added to the sum so far, give the whole annuity. Assumes nothing.
use mathlib.Core.Path.{◌≡◌}
use Rattle.std.specs.Iterator.Adapters.{zip_first, zip_second}
use Rattle.std.specs.Slice.Iter.{iter_rest}
use Rattle.fit_objective.specs.Market.{annuity_onto, annuity_of}
use Rattle.fit_objective.proofs.market.annuity.Given as goal

abbrev pub invariant-loop-accrual : goal.invariant-loop-accrual
invariant-loop-accrual l = annuity_onto l.sum (iter_rest (zip_first l.accrual-iterator)) (iter_rest (zip_second l.accrual-iterator)) ≡ annuity_of l.accruals l.p
