-- `fit::fits::fit_swaption_on` meets its contract: turned down by its rules, or what `swaption_fitted` finds; what it serves is assured, and it wants a bracket where a search that it tries does. Assumes nothing.
use mathlib.Core.Path.{ap}
use Rattle.refusals.specs.Refusals.{reported}
use Rattle.math_bisection.specs.Result.{no_fit}
use Rattle.fit.proofs.Outcomes.{swaption_turned_down, swaption_let_through, lists_fit}
use Rattle.fit.proofs.Demand3.{swaption_held, swaption_refused_so}
use Rattle.fit.proofs.fits.fit_swaption_on.Goals as goal

pub returns-in_err-swaption_rules : goal.returns-in_err-swaption_rules
returns-in_err-swaption_rules c =
    let a = c.args in
    let o = swaption_turned_down a.quote.vol_type a.alpha a.times.now a.factors.now a.payments.now a.accruals.now a.strike a.t a.quote.volatility c.requires c.coupon_faults-coupons.ensures c.all-later.ensures c.in_err-swaption_rules.ensures c.from_residual.ensures.1 in
    record { answer = o; held = swaption_held _ _ _ _ _ _ _ _ _ o; bracket = swaption_refused_so _ _ _ _ _ _ _ _ _ o; report = ap (reported no_fit) o }

pub swaption_fitted-requires : goal.swaption_fitted-requires
swaption_fitted-requires c =
    let a = c.args in
    lists_fit a.quote.vol_type a.alpha a.times.now a.factors.now a.payments.now a.accruals.now a.strike a.t a.quote.volatility c.requires c.coupon_faults-coupons.ensures c.all-later.ensures c.in_ok-swaption_rules.ensures

pub returns : goal.returns
returns c =
    let a = c.args in
    let o = swaption_let_through a.quote.vol_type a.alpha a.times.now a.factors.now a.payments.now a.accruals.now a.strike a.t a.quote.volatility c.requires c.coupon_faults-coupons.ensures c.all-later.ensures c.in_ok-swaption_rules.ensures c.swaption_fitted.ensures in
    record { answer = o; held = swaption_held _ _ _ _ _ _ _ _ _ o; bracket = swaption_refused_so _ _ _ _ _ _ _ _ _ o; report = ap (reported no_fit) o }
