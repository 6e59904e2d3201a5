-- `calstwid_exports::paths::listed` meets its contract: a value for each grid point where the path is served. Assumes nothing.
use mathlib.Core.Path.{◌∙◌}
use Rattle.hullwhite_paths.proofs.Served.{path_length}
use Rattle.calstwid_exports.proofs.Counted.{counted}
use Rattle.calstwid_exports.proofs.paths.listed.Goals as goal

pub returns : goal.returns
returns c =
    let g = c.generate-answer in
    let a = c.args in
    record { answer = c.count_report.ensures ∙ counted _ _ _ g.ensures.answer (path_length a.centre a.alpha a.pillars.now a.sigmas.now a.times.now a.factors.now a.grid.now a.draws.now _); output = g.ensures.output }
