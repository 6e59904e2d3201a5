-- `pricer_critical_rate::find::find_critical_rate` meets its contract: turned down by its rules, or what its search comes to; the root is where the outcome defined has it, and it wants a bracket where that one does. Assumes nothing.
use mathlib.Core.Path.{refl, ◌∙◌}
use native.Mathlib.Omega.{arith}
use borrow.Author.Rules.{rules}
use Rattle.refusals.proofs.Outcomes.{handed_on}
use Rattle.pricer_critical_rate.proofs.Outcomes.{lists_fit, rate_refused, rate_searched}
use Rattle.pricer_critical_rate.proofs.Demand3.{rate_promised}
use Rattle.pricer_critical_rate.proofs.find.find_critical_rate.Goals as goal

pub returns-in_err-search_rules : goal.returns-in_err-search_rules
returns-in_err-search_rules c =
    rate_promised _ _ _ (handed_on c.from_residual.ensures.1 ∙ rate_refused _ _ _ c.in_err-search_rules.ensures refl)

pub find_critical_rate_of-found-requires : goal.find_critical_rate_of-found-requires
find_critical_rate_of-found-requires c =
    let fit = lists_fit _ _ _ c.in_ok-search_rules.ensures refl in
    (fit.0, omega (arith, fit.1, fit.2))

pub returns-in-Err-NotANumber : goal.returns-in-Err-NotANumber
returns-in-Err-NotANumber c =
    rate_promised _ _ _ (rate_searched _ _ _ c.in_ok-search_rules.ensures refl c.find_critical_rate_of-found.ensures (search rules))

pub returns-in_default-found : goal.returns-in_default-found
returns-in_default-found c =
    rate_promised _ _ _ (rate_searched _ _ _ c.in_ok-search_rules.ensures refl c.find_critical_rate_of-found.ensures (search rules))

pub returns : goal.returns
returns c = rate_promised _ _ _ (rate_searched _ _ _ c.in_ok-search_rules.ensures refl c.in-Ok.ensures c.finished.ensures)
