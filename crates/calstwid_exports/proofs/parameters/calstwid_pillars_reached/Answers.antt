-- `calstwid_exports::parameters::calstwid_pillars_reached` meets its contract: the part that is counted is the front of the list. Assumes nothing.
use mathlib.Core.Path.{sym, ◌∙◌, ap}
use Rattle.hullwhite_parameters.specs.Parameters.{reached_outcome}
use Rattle.hullwhite_parameters.proofs.ReachedLaws.{reached_is}
use Rattle.calstwid_exports.proofs.Counted.{counted_part, reached_front}
use Rattle.calstwid_exports.specs.declared.reports.CountReport.{CountReport}
use Rattle.refusals.specs.Refusals.{answer_number}
use Rattle.calstwid_exports.proofs.parameters.calstwid_pillars_reached.Goals as goal

pub returns : goal.returns
returns c =
    let a = c.args in
    let is = reached_is a.times.now a.sigmas.now a.t c.reached_answer-answer.ensures c.reached_part-part.ensures in
    let first = c.count_report.ensures ∙ counted_part (reached_outcome a.times.now a.sigmas.now a.t) _ _ is.answered is.handed in
    record {
      answer = first;
      part = reached_front a.times.now a.sigmas.now a.t _ (ap (λ (x : CountReport). x.count) first);
      as_volatility = ap (λ (x : CountReport). x.answer) first ∙ ap answer_number (sym is.answered ∙ is.as_volatility);
    }
