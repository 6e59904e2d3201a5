-- `hullwhite_paths::path::generate_seeded` meets its contract: the rules turn the call down, or the path behind them is written on the draws of the seed. Assumes nothing.
use Rattle.std.specs.Prelude.{Ok}
use mathlib.Core.Path.{◌≡◌, refl, sym, ap, ◌∙◌}
use mathlib.Core.List.{List, ◌++◌}
use Prim.Native.Nat.{ℕ, ◌≤◌}
use lib.ListN.{length, replicate, take, drop}
use lib.Ieee.{Float}
use Rattle.ieee.specs.Numbers.{zero}
use Rattle.refusals.specs.Refusals.{Outcome, answer_of, reported, following}
use Rattle.refusals.proofs.Outcomes.{handed_on, turned_down, let_through}
use Rattle.refusals.proofs.Lending.{lent_is, back_fits, back_is, values_are}
use Rattle.draws.specs.Draws.{draws_of, reached_by}
use Rattle.hullwhite_transitions.specs.Written.{stored_of, finishing_list}
use Rattle.hullwhite_points.specs.declared.walk.Centre.{Centre}
use Rattle.hullwhite_points.specs.Path.{start_state, path_from}
use Rattle.hullwhite_paths.specs.Seeded.{seeded_outcome}
use Rattle.hullwhite_paths.proofs.Outcomes.{seeded_rules_of, seeded_fits, not_reached, reached}
use Rattle.hullwhite_paths.proofs.path.generate_seeded.Goals as goal

-- ---- behind the rules: the path on a list of draws
abbrev path : Centre → Float → List Float → List Float → List Float → List Float → List Float → List Float → Outcome (List Float)
path centre alpha ps ss ts fs grid draws = following (path_from centre alpha ps ss ts fs start_state grid draws) finishing_list

-- the list that the draws are written to
abbrev room : List Float
room = replicate 1024 zero

-- its front, n places that are lent, holds the draws of the seed when it is handed back
drawn : (n seed : ℕ) (fits : n ≤ 1024) (written : List Float) (same : length written ≡ length (take n room)) → written ≡ draws_of (length (take n room)) seed → take n (written ++ drop n room) ≡ draws_of n seed
drawn n seed fits written same e = values_are room n fits written same ∙ e ∙ ap (λ (m : ℕ). draws_of m seed) (sym (lent_is room n fits))

pub returns-in_err-path_rules : goal.returns-in_err-path_rules
unfolding seeded_outcome
returns-in_err-path_rules c =
    let a = c.args in
    let rules = seeded_rules_of _ _ _ _ _ a.alpha c.pillar_faults-schedule.ensures c.curve_faults-curve.ensures c.seeded_grid_faults-points.ensures c.path_rules.ensures in
    rw (handed_on c.from_residual.ensures.1, turned_down _ (path a.centre a.alpha a.pillars.now a.sigmas.now a.times.now a.factors.now a.grid.now (draws_of (length a.grid.now) a.seed)) c.in_err-path_rules.was rules) record { answer = refl; output = refl; report = refl }

pub slice_bounds-drawn-end : goal.slice_bounds-drawn-end
slice_bounds-drawn-end c = (seeded_fits _ _ _ _ _ _ _ _ _ _ _ c.pillar_faults-schedule.ensures c.curve_faults-curve.ensures c.seeded_grid_faults-points.ensures c.in_ok-path_rules.was c.path_rules.ensures).0

pub slice_bounds-write_draws-end : goal.slice_bounds-write_draws-end
slice_bounds-write_draws-end c = lent_is room _ (seeded_fits _ _ _ _ _ _ _ _ _ _ _ c.pillar_faults-schedule.ensures c.curve_faults-curve.ensures c.seeded_grid_faults-points.ensures c.in_ok-path_rules.was c.path_rules.ensures).0

pub slice_bounds-drawn-end-2 : goal.slice_bounds-drawn-end-2
slice_bounds-drawn-end-2 c = back_fits room _ (seeded_fits _ _ _ _ _ _ _ _ _ _ _ c.pillar_faults-schedule.ensures c.curve_faults-curve.ensures c.seeded_grid_faults-points.ensures c.in_ok-path_rules.was c.path_rules.ensures).0 c.write_draws-state.new.out c.write_draws-state.auto.out

pub slice_bounds-write_path-end : goal.slice_bounds-write_path-end
slice_bounds-write_path-end c = back_is room _ (seeded_fits _ _ _ _ _ _ _ _ _ _ _ c.pillar_faults-schedule.ensures c.curve_faults-curve.ensures c.seeded_grid_faults-points.ensures c.in_ok-path_rules.was c.path_rules.ensures).0 c.write_draws-state.new.out c.write_draws-state.auto.out

pub write_path-requires : goal.write_path-requires
write_path-requires c =
    let k = seeded_fits _ _ _ _ _ _ _ _ _ _ _ c.pillar_faults-schedule.ensures c.curve_faults-curve.ensures c.seeded_grid_faults-points.ensures c.in_ok-path_rules.was c.path_rules.ensures in
    (k.0, sym (back_is room _ k.0 c.write_draws-state.new.out c.write_draws-state.auto.out), k.1, k.2, k.3)

pub returns-in_err-write_path : goal.returns-in_err-write_path
unfolding seeded_outcome
returns-in_err-write_path c =
    let a = c.args in
    let rules = seeded_rules_of _ _ _ _ _ a.alpha c.pillar_faults-schedule.ensures c.curve_faults-curve.ensures c.seeded_grid_faults-points.ensures c.path_rules.ensures in
    let k = seeded_fits _ _ _ _ _ _ _ _ _ _ _ c.pillar_faults-schedule.ensures c.curve_faults-curve.ensures c.seeded_grid_faults-points.ensures c.in_ok-path_rules.was c.path_rules.ensures in
    let on = path a.centre a.alpha a.pillars.now a.sigmas.now a.times.now a.factors.now a.grid.now in
    let d = drawn (length a.grid.now) a.seed k.0 c.write_draws-state.new.out c.write_draws-state.auto.out c.write_draws-state.ensures.draws in
    let w = c.write_path.ensures in
    let answer = handed_on c.from_residual-in_err-write_path.ensures.1 ∙ not_reached (on (draws_of (length a.grid.now) a.seed)) (reached_by (length a.grid.now) a.seed) c.in_err-write_path.was (w.answer ∙ ap (λ (ds : List Float). answer_of (on ds)) d) in
    rw (let_through _ (on (draws_of (length a.grid.now) a.seed)) c.in_ok-path_rules.was rules) record { answer = answer; output = w.output ∙ ap (λ (ds : List Float). stored_of (on ds) a.out.now) d; report = ap (reported 0) answer }

pub returns : goal.returns
unfolding seeded_outcome
returns c =
    let a = c.args in
    let rules = seeded_rules_of _ _ _ _ _ a.alpha c.pillar_faults-schedule.ensures c.curve_faults-curve.ensures c.seeded_grid_faults-points.ensures c.path_rules.ensures in
    let k = seeded_fits _ _ _ _ _ _ _ _ _ _ _ c.pillar_faults-schedule.ensures c.curve_faults-curve.ensures c.seeded_grid_faults-points.ensures c.in_ok-path_rules.was c.path_rules.ensures in
    let on = path a.centre a.alpha a.pillars.now a.sigmas.now a.times.now a.factors.now a.grid.now in
    let d = drawn (length a.grid.now) a.seed k.0 c.write_draws-state.new.out c.write_draws-state.auto.out c.write_draws-state.ensures.draws in
    let w = c.write_path.ensures in
    let answer = ap Ok (c.write_draws-state.ensures.state ∙ ap (λ (m : ℕ). reached_by m a.seed) (sym (lent_is room _ k.0))) ∙ reached (on (draws_of (length a.grid.now) a.seed)) (reached_by (length a.grid.now) a.seed) c.in_ok-write_path.was (w.answer ∙ ap (λ (ds : List Float). answer_of (on ds)) d) in
    rw (let_through _ (on (draws_of (length a.grid.now) a.seed)) c.in_ok-path_rules.was rules) record { answer = answer; output = w.output ∙ ap (λ (ds : List Float). stored_of (on ds) a.out.now) d; report = ap (reported 0) answer }
