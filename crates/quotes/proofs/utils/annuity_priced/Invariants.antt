-- `quotes::annuity_priced` meets its contract. The loop's invariant: the coupons that the walk has left make the sum up to the whole. Assumes nothing.
use Rattle.std.proofs.Common.{◌≡◌}
use Rattle.quotes.specs.Utils.{annuity_from, annuity_priced}
use Rattle.quotes.proofs.utils.annuity_priced.Given as goal

abbrev pub invariant-loop-payment : goal.invariant-loop-payment
invariant-loop-payment l =
    let left = l.payment-iterator in
    annuity_from l.times l.factors l.sum left.a.rest.now left.b.rest.now ≡ annuity_priced l.times l.factors l.payments l.accruals
