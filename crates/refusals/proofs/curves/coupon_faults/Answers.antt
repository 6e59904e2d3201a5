-- `coupon_faults` meets its contract: each rule's fault is what the checks of the lists of the coupons say.
use Rattle.refusals.proofs.curves.coupon_faults.Goals as goal

pub returns : goal.returns
returns c = rw (c.all-2.ensures, c.all.ensures)
