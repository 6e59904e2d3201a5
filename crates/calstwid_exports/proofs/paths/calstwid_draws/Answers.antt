-- `calstwid_exports::paths::calstwid_draws` meets its contract: a draw for each place where the call is served, and the state reached. Assumes nothing.
use mathlib.Core.Path.{◌∙◌}
use lib.ListN.{length}
use Rattle.calstwid_exports.proofs.Counted.{drawn, drawn_length}
use Rattle.calstwid_exports.proofs.paths.calstwid_draws.Goals as goal

pub returns : goal.returns
returns c =
    let g = c.stated_draws-drawn in
    let a = c.args in
    record { answer = c.draws_report.ensures ∙ drawn _ g.result _ (length a.out.now) g.ensures.answer (drawn_length a.seed (length a.out.now)); output = g.ensures.output }
