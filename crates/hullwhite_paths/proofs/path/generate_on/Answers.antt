-- `hullwhite_paths::path::generate_on` meets its contract: the rules turn the call down, or the path behind them is written. Assumes nothing.
use mathlib.Core.Path.{refl, ap}
use lib.ListN.{length}
use Rattle.refusals.specs.Refusals.{answer_number, following}
use Rattle.refusals.proofs.Outcomes.{handed_on, turned_down, let_through}
use Rattle.hullwhite_transitions.specs.Written.{finishing_list}
use Rattle.hullwhite_points.specs.Path.{start_state, path_from}
use Rattle.hullwhite_paths.specs.Generate.{generate_outcome}
use Rattle.hullwhite_paths.proofs.Outcomes.{listed_rules_of, grid_fits}
use Rattle.hullwhite_paths.proofs.path.generate_on.Goals as goal

pub returns-in_err-path_rules : goal.returns-in_err-path_rules
unfolding generate_outcome
returns-in_err-path_rules c =
    let a = c.args in
    let rules = listed_rules_of _ _ _ _ a.alpha c.pillar_faults-schedule.ensures c.requires c.grid_faults-points.ensures c.path_rules.ensures in
    rw (handed_on c.from_residual.ensures.1, turned_down _ (following (path_from a.centre a.alpha a.pillars.now a.sigmas.now a.times.now a.factors.now start_state a.grid.now a.draws.now) finishing_list) c.in_err-path_rules.was rules) record { answer = refl; output = refl; number = refl }

pub write_path-requires : goal.write_path-requires
write_path-requires c =
    let a = c.args in
    let rules = listed_rules_of _ _ _ _ a.alpha c.pillar_faults-schedule.ensures c.requires c.grid_faults-points.ensures c.path_rules.ensures in
    grid_fits a.pillars.now a.sigmas.now a.times.now a.factors.now a.grid.now a.draws.now _ _ _ (length a.out.now) a.alpha c.in_ok-path_rules.was rules

pub returns : goal.returns
unfolding generate_outcome
returns c =
    let a = c.args in
    let rules = listed_rules_of _ _ _ _ a.alpha c.pillar_faults-schedule.ensures c.requires c.grid_faults-points.ensures c.path_rules.ensures in
    let w = c.write_path.ensures in
    rw (let_through _ (following (path_from a.centre a.alpha a.pillars.now a.sigmas.now a.times.now a.factors.now start_state a.grid.now a.draws.now) finishing_list) c.in_ok-path_rules.was rules) record { answer = w.answer; output = w.output; number = ap answer_number w.answer }
