-- `quotes::d1_d2` meets its contract: turned down by its rules, or what `d1_d2_worked` finds. Assumes nothing.
use mathlib.Core.Path.{ap}
use Rattle.refusals.specs.Refusals.{reported}
use Rattle.refusals.proofs.Outcomes.{after_refusal, after_served}
use Rattle.quotes.specs.Utils.{no_d1_d2, d1d2_outcome}
use Rattle.quotes.proofs.utils.d1_d2.Goals as goal

pub returns-in_err-quote_rules : goal.returns-in_err-quote_rules
unfolding d1d2_outcome
returns-in_err-quote_rules c =
    let o = after_refusal _ c.in_err-quote_rules.ensures c.from_residual.ensures.1 in
    record { answer = o; report = ap (reported no_d1_d2) o }

pub returns : goal.returns
unfolding d1d2_outcome
returns c =
    let o = after_served _ c.in_ok-quote_rules.ensures c.d1_d2_worked.ensures in
    record { answer = o; report = ap (reported no_d1_d2) o }
