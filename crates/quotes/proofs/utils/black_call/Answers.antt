-- `quotes::black_call` meets its contract: turned down by its rules, or the formula. Assumes nothing.
use mathlib.Core.Path.{ap, ◌∙◌}
use Rattle.refusals.specs.Refusals.{finishing}
use Rattle.refusals.proofs.Outcomes.{priced, after_refusal, after_served}
use Rattle.quotes.specs.Utils.{black_call_outcome}
use Rattle.quotes.proofs.utils.black_call.Goals as goal

pub returns-in_err-quote_rules : goal.returns-in_err-quote_rules
unfolding black_call_outcome
returns-in_err-quote_rules c = priced _ (after_refusal _ c.in_err-quote_rules.ensures c.from_residual.ensures.1)

pub returns : goal.returns
unfolding black_call_outcome
returns c = priced _ (after_served _ c.in_ok-quote_rules.ensures (c.served.ensures ∙ ap finishing c.black_call_of.ensures))
