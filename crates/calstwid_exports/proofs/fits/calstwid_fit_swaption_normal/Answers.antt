-- `calstwid_exports::fits::calstwid_fit_swaption_normal` meets its contract: the report is that of the call's outcome, and the answer that it is of is the call's own. Assumes nothing.
use mathlib.Core.Path.{◌∙◌, ap}
use Rattle.calstwid_exports.specs.Reports.{fit_report_of}
use Rattle.calstwid_exports.proofs.fits.calstwid_fit_swaption_normal.Goals as goal

pub returns : goal.returns
returns c =
    let f = c.fit_swaption in
    record {
      answer = c.from.ensures ∙ ap fit_report_of f.ensures.answer;
      held = record { answer = f.result; reported = c.from.ensures; holds = f.ensures.held };
      bracket = record { answer = f.result; reported = c.from.ensures; holds = f.ensures.bracket };
    }
