-- `pricer_critical_rate::implicit::implicit_critical_rate` meets its contract: turned down by its rules, or what its search and the step from it come to; the root is where the outcome defined has it, and it wants a bracket where that one does. Assumes nothing.
use mathlib.Core.Path.{refl, ◌∙◌}
use native.Mathlib.Omega.{arith}
use Rattle.refusals.proofs.Outcomes.{handed_on}
use Rattle.pricer_critical_rate.proofs.Outcomes.{lists_fit, implicit_refused, implicit_searched, step_is}
use Rattle.pricer_critical_rate.proofs.Demand3.{implicit_promised}
use Rattle.pricer_critical_rate.proofs.implicit.implicit_critical_rate.Goals as goal

pub returns-in_err-search_rules : goal.returns-in_err-search_rules
returns-in_err-search_rules c =
    implicit_promised _ _ _ (handed_on c.from_residual.ensures.1 ∙ implicit_refused _ _ _ c.in_err-search_rules.ensures refl)

pub find_critical_rate_of-requires : goal.find_critical_rate_of-requires
find_critical_rate_of-requires c =
    let fit = lists_fit _ _ _ c.in_ok-search_rules.ensures refl in
    (fit.0, omega (arith, fit.1, fit.2))

pub returns-in_err-root : goal.returns-in_err-root
returns-in_err-root c =
    implicit_promised _ _ _ (implicit_searched _ _ _ c.in_ok-search_rules.ensures refl c.in_err-root.ensures (handed_on c.from_residual-in_err-root.ensures.1))

pub implicit_critical_rate_of-requires : goal.implicit_critical_rate_of-requires
implicit_critical_rate_of-requires c =
    let fit = lists_fit _ _ _ c.in_ok-search_rules.ensures refl in
    (fit.1, fit.2)

pub returns-in_err-after_step : goal.returns-in_err-after_step
returns-in_err-after_step c =
    implicit_promised _ _ _ (implicit_searched _ _ _ c.in_ok-search_rules.ensures refl c.in_ok-root.ensures (step_is _ _ _ _ c.in_err-after_step.ensures (handed_on c.from_residual-in_err-after_step.ensures.1)))

pub returns : goal.returns
returns c =
    implicit_promised _ _ _ (implicit_searched _ _ _ c.in_ok-search_rules.ensures refl c.in_ok-root.ensures (step_is _ _ _ _ c.in_ok-after_step.ensures c.finished.ensures))
