-- `pricer::swaption_value_on` meets its contract: turned down by its rules, or what `swaption_priced` finds; its root is where the outcome defined has it, and it wants a bracket where that one does. Assumes nothing.
use mathlib.Core.Path.{refl, ◌∙◌}
use Rattle.refusals.proofs.Outcomes.{handed_on}
use Rattle.pricer.proofs.Outcomes.{same_rules, turned_down, let_through, lists_fit}
use Rattle.pricer.proofs.Demand3.{promised}
use Rattle.pricer.proofs.pricer.swaption_value_on.Goals as goal

pub returns-in_err-pricer_rules : goal.returns-in_err-pricer_rules
returns-in_err-pricer_rules c =
    let a = c.args in
    let r = same_rules _ a.alpha a.trade.strike a.trade.t a.trade.notional a.trade.side c.requires c.pillar_faults-schedule.ensures c.coupon_faults-coupons.ensures c.own_faults-own.ensures c.all-later.ensures c.in_err-pricer_rules.ensures in
    promised a.trade.option a.alpha a.pillars.now a.sigmas.now a.times.now a.factors.now a.payments.now a.accruals.now a.own_dfs.now a.trade.strike a.trade.t a.trade.notional a.trade.side _ (handed_on c.from_residual.ensures.1 ∙ turned_down a.trade.option a.alpha a.pillars.now a.sigmas.now a.times.now a.factors.now a.payments.now a.accruals.now a.own_dfs.now a.trade.strike a.trade.t a.trade.notional a.trade.side r refl)

pub swaption_priced-requires : goal.swaption_priced-requires
swaption_priced-requires c =
    let a = c.args in
    let r = same_rules _ a.alpha a.trade.strike a.trade.t a.trade.notional a.trade.side c.requires c.pillar_faults-schedule.ensures c.coupon_faults-coupons.ensures c.own_faults-own.ensures c.all-later.ensures c.in_ok-pricer_rules.ensures in
    lists_fit a.trade.option a.alpha a.pillars.now a.sigmas.now a.times.now a.factors.now a.payments.now a.accruals.now a.own_dfs.now a.trade.strike a.trade.t a.trade.notional a.trade.side r refl

pub returns : goal.returns
returns c =
    let a = c.args in
    let r = same_rules _ a.alpha a.trade.strike a.trade.t a.trade.notional a.trade.side c.requires c.pillar_faults-schedule.ensures c.coupon_faults-coupons.ensures c.own_faults-own.ensures c.all-later.ensures c.in_ok-pricer_rules.ensures in
    promised a.trade.option a.alpha a.pillars.now a.sigmas.now a.times.now a.factors.now a.payments.now a.accruals.now a.own_dfs.now a.trade.strike a.trade.t a.trade.notional a.trade.side _ (c.swaption_priced.ensures ∙ let_through a.trade.option a.alpha a.pillars.now a.sigmas.now a.times.now a.factors.now a.payments.now a.accruals.now a.own_dfs.now a.trade.strike a.trade.t a.trade.notional a.trade.side r refl)
