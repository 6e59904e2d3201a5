-- `quotes::swap_annuity_from_curve` meets its contract: turned down by its rules, or what `annuity_priced` finds. Assumes nothing.
use Rattle.refusals.proofs.Outcomes.{priced, after_refusal, after_served}
use Rattle.refusals.proofs.Refusing.{rises}
use Rattle.quotes.specs.Utils.{annuity_outcome}
use Rattle.quotes.proofs.utils.swap_annuity_from_curve.Goals as goal

pub annuity_priced-requires : goal.annuity_priced-requires
annuity_priced-requires c = rises _ _ _ _ _ c.curve_faults-curve.ensures c.in_ok-annuity_rules.was c.annuity_rules.ensures (λ n. n.1.1.0)

pub returns-in_err-annuity_rules : goal.returns-in_err-annuity_rules
unfolding annuity_outcome
returns-in_err-annuity_rules c =
    priced _ (after_refusal _ (rw (c.curve_faults-curve.ensures, c.coupon_faults-coupons.ensures) at c.in_err-annuity_rules.ensures) c.from_residual.ensures.1)

pub returns : goal.returns
unfolding annuity_outcome
returns c =
    priced _ (after_served _ (rw (c.curve_faults-curve.ensures, c.coupon_faults-coupons.ensures) at c.in_ok-annuity_rules.ensures) c.annuity_priced.ensures)
