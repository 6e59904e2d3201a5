-- `calstwid_exports::baskets::calstwid_calibrate_to_instruments` meets its contract: the report is that of the call's outcome, and the answer that it is of is the call's own. Assumes nothing.
use mathlib.Core.Path.{◌∙◌, ap}
use Rattle.calstwid_exports.specs.Reports.{basket_report_of}
use Rattle.calstwid_exports.proofs.baskets.calstwid_calibrate_to_instruments.Goals as goal

pub returns : goal.returns
returns c =
    let f = c.calibrate_to_instruments in
    record {
      answer = c.from.ensures ∙ ap basket_report_of f.ensures.answer;
      held = record { answer = f.result; reported = c.from.ensures; holds = f.ensures.held };
      bracket = record { answer = f.result; reported = c.from.ensures; holds = f.ensures.bracket };
    }
