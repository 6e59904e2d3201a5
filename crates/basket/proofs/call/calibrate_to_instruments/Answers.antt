-- `basket::call::calibrate_to_instruments` meets its contract: turned down by its rules, or what `fitted_basket` finds; every place of what it serves is held, and it never wants a bracket. Assumes nothing.
use mathlib.Core.Path.{ap}
use Rattle.refusals.specs.Refusals.{reported}
use Rattle.basket.specs.Basket.{no_basket}
use Rattle.basket.proofs.Outcomes.{turned_down, let_through, lists_fit}
use Rattle.basket.proofs.Demand3.{basket_held, basket_never_so}
use Rattle.basket.proofs.call.calibrate_to_instruments.Goals as goal

pub returns-in_err-basket_rules : goal.returns-in_err-basket_rules
returns-in_err-basket_rules c =
    let a = c.args in
    let o = turned_down a.alpha a.times.now a.factors.now a.normals.now a.strikes.now a.starts.now a.ends.now a.vols.now c.curve_faults-curve.ensures c.size_wrong.ensures c.numbers_wrong.ensures c.times_wrong.ensures c.domain_wrong.ensures c.in_err-basket_rules.ensures c.from_residual.ensures.1 in
    record { answer = o; held = basket_held _ _ _ _ _ _ _ _ o; bracket = basket_never_so _ _ _ _ _ _ _ _ o; report = ap (reported no_basket) o }

pub invariant_of-entries : goal.invariant_of-entries
invariant_of-entries c =
    let a = c.args in
    let f = lists_fit a.alpha a.times.now a.factors.now a.normals.now a.strikes.now a.starts.now a.ends.now a.vols.now c.curve_faults-curve.ensures c.size_wrong.ensures c.numbers_wrong.ensures c.times_wrong.ensures c.domain_wrong.ensures c.in_ok-basket_rules.ensures in
    record { of_one_length = (f.1, f.2, f.3, f.4) }

pub fitted_basket-requires : goal.fitted_basket-requires
fitted_basket-requires c =
    let a = c.args in
    let f = lists_fit a.alpha a.times.now a.factors.now a.normals.now a.strikes.now a.starts.now a.ends.now a.vols.now c.curve_faults-curve.ensures c.size_wrong.ensures c.numbers_wrong.ensures c.times_wrong.ensures c.domain_wrong.ensures c.in_ok-basket_rules.ensures in
    (f.0, f.5)

pub returns : goal.returns
returns c =
    let a = c.args in
    let o = let_through a.alpha a.times.now a.factors.now a.normals.now a.strikes.now a.starts.now a.ends.now a.vols.now c.curve_faults-curve.ensures c.size_wrong.ensures c.numbers_wrong.ensures c.times_wrong.ensures c.domain_wrong.ensures c.in_ok-basket_rules.ensures c.fitted_basket.ensures in
    record { answer = o; held = basket_held _ _ _ _ _ _ _ _ o; bracket = basket_never_so _ _ _ _ _ _ _ _ o; report = ap (reported no_basket) o }
