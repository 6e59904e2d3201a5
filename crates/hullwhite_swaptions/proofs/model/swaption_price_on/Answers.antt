-- `hullwhite_swaptions::model::swaption_price_on` meets its contract: turned down by its rules, worth 0 without coupons, or what `model_priced` finds; its root is where the outcome defined has it, and it wants a bracket where that one does. Assumes nothing.
use Rattle.std.specs.Prelude.{Ok}
use borrow.Author.Rules.{rules}
use mathlib.Core.Path.{◌≡◌, refl, ap, ◌∙◌}
use Rattle.hullwhite_jamshidian.specs.Price.{no_swaption}
use Rattle.refusals.proofs.Outcomes.{handed_on}
use Rattle.hullwhite_swaptions.proofs.Outcomes.{same_rules, turned_down, no_coupons, with_coupons, lists_fit}
use Rattle.hullwhite_swaptions.proofs.Demand3.{promised}
use Rattle.hullwhite_swaptions.proofs.model.swaption_price_on.Goals as goal

pub returns-in_err-model_rules : goal.returns-in_err-model_rules
returns-in_err-model_rules c =
    let a = c.args in
    let r = same_rules a.alpha a.strike a.t a.sigma c.requires c.coupon_faults-coupons.ensures c.all-later.ensures c.in_err-model_rules.ensures in
    promised a.alpha a.times.now a.factors.now a.payments.now a.accruals.now a.strike a.t a.sigma _ (handed_on c.from_residual.ensures.1 ∙ turned_down a.alpha a.times.now a.factors.now a.payments.now a.accruals.now a.strike a.t a.sigma r refl)

pub returns-then-payments-eq0 : goal.returns-then-payments-eq0
returns-then-payments-eq0 c =
    let a = c.args in
    let r = same_rules a.alpha a.strike a.t a.sigma c.requires c.coupon_faults-coupons.ensures c.all-later.ensures c.in_ok-model_rules.ensures in
    let z : c.default.result ≡ no_swaption = search rules in
    promised a.alpha a.times.now a.factors.now a.payments.now a.accruals.now a.strike a.t a.sigma _ (ap Ok z ∙ no_coupons a.alpha a.times.now a.factors.now a.payments.now a.accruals.now a.strike a.t a.sigma r refl c.if-payments-eq0.true)

pub model_priced-requires : goal.model_priced-requires
model_priced-requires c =
    let a = c.args in
    let r = same_rules a.alpha a.strike a.t a.sigma c.requires c.coupon_faults-coupons.ensures c.all-later.ensures c.in_ok-model_rules.ensures in
    lists_fit a.alpha a.times.now a.factors.now a.payments.now a.accruals.now a.strike a.t a.sigma r refl

pub returns : goal.returns
returns c =
    let a = c.args in
    let r = same_rules a.alpha a.strike a.t a.sigma c.requires c.coupon_faults-coupons.ensures c.all-later.ensures c.in_ok-model_rules.ensures in
    promised a.alpha a.times.now a.factors.now a.payments.now a.accruals.now a.strike a.t a.sigma _ (c.model_priced.ensures ∙ with_coupons a.alpha a.times.now a.factors.now a.payments.now a.accruals.now a.strike a.t a.sigma r refl c.if-payments-eq0.false)
