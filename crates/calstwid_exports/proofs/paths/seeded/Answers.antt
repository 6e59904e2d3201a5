-- `calstwid_exports::paths::seeded` meets its contract: a value for each grid point where the path is served, and the state reached. Assumes nothing.
use mathlib.Core.Path.{◌∙◌}
use Rattle.hullwhite_paths.proofs.Served.{seeded_length}
use Rattle.calstwid_exports.proofs.Counted.{drawn}
use Rattle.calstwid_exports.proofs.paths.seeded.Goals as goal

pub returns : goal.returns
returns c =
    let g = c.generate_seeded-drawn in
    let a = c.args in
    record { answer = c.draws_report.ensures ∙ drawn _ g.result _ _ g.ensures.answer (seeded_length a.centre a.alpha a.pillars.now a.sigmas.now a.times.now a.factors.now a.grid.now a.seed _); output = g.ensures.output }
