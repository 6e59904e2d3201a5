-- `calstwid_exports::paths::calstwid_transition_variances` meets its contract: a value for each step where the call is served. Assumes nothing.
use mathlib.Core.Path.{◌∙◌}
use Rattle.calstwid_exports.proofs.Counted.{counted, steps_length}
use Rattle.calstwid_exports.proofs.paths.calstwid_transition_variances.Goals as goal

pub returns : goal.returns
returns c =
    let g = c.transition_variances-answer in
    let a = c.args in
    record { answer = c.count_report.ensures ∙ counted _ _ _ g.ensures.answer (steps_length a.alpha a.times.now a.sigmas.now a.time_step a.steps _); output = g.ensures.output }
