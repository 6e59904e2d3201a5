-- `calstwid_exports::swaptions::calstwid_receiver_swaption_value` meets its contract: the report is that of the call's outcome, and the answer that it is of is the call's own. Assumes nothing.
use mathlib.Core.Path.{◌∙◌, ap}
use Rattle.calstwid_exports.specs.Reports.{valuation_report_of}
use Rattle.calstwid_exports.proofs.swaptions.calstwid_receiver_swaption_value.Goals as goal

pub returns : goal.returns
returns c =
    let f = c.swaption_value in
    record {
      answer = c.from.ensures ∙ ap valuation_report_of f.ensures.answer;
      rooted = record { answer = f.result; reported = c.from.ensures; holds = f.ensures.rooted };
      bracket = record { answer = f.result; reported = c.from.ensures; holds = f.ensures.bracket };
    }
