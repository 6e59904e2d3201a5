-- `calstwid_exports::critical_rate::calstwid_implicit_critical_rate` meets its contract: the report is that of the call's outcome, and the answer that it is of is the call's own. Assumes nothing.
use mathlib.Core.Path.{◌∙◌, ap}
use Rattle.calstwid_exports.specs.Reports.{implicit_rate_report_of}
use Rattle.calstwid_exports.proofs.critical_rate.calstwid_implicit_critical_rate.Goals as goal

pub returns : goal.returns
returns c =
    let f = c.implicit_critical_rate in
    record {
      answer = c.from.ensures ∙ ap implicit_rate_report_of f.ensures.answer;
      rooted = record { answer = f.result; reported = c.from.ensures; holds = f.ensures.rooted };
      bracket = record { answer = f.result; reported = c.from.ensures; holds = f.ensures.bracket };
    }
