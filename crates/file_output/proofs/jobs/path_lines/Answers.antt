-- `file_output::jobs::path_lines` meets its contract: a refusal's line, the line of an empty grid, or the lines of the points that the path's list then holds. Assumes nothing.
use mathlib.Core.Path.{sym, ◌∙◌}
use mathlib.Core.List.{List}
use native.Mathlib.Omega.{arith}
use lib.ListN.{length, replicate}
use lib.Ieee.{Float}
use Rattle.ieee.specs.Numbers.{zero}
use Rattle.hullwhite_paths.specs.Generate.{generate_outcome}
use Rattle.refusals.proofs.Lending.{lent_is, back_fits, back_is, values_are}
use Rattle.hullwhite_paths.proofs.Served.{path_length}
use Rattle.file_output.proofs.Written.{was_refused, was_served, same_room, left_is, refused_line_lem, empty_line, point_by_point}
use Rattle.file_output.proofs.jobs.path_lines.Goals as goal

-- the list that is lent to the path
abbrev work : List Float
work = replicate 1024 zero

pub slice_bounds-generate_on-end : goal.slice_bounds-generate_on-end
slice_bounds-generate_on-end c = lent_is work _ c.requires.1

pub returns-in-Err : goal.returns-in-Err
returns-in-Err c =
    let a = c.args in
    let g = c.generate_on-answer in
    let n = length a.grid.now in
    let path = generate_outcome a.centre a.alpha a.pillars.now a.sigmas.now a.times.now a.factors.now a.grid.now a.draws.now in
    let gave = same_room path work n c.requires.1 g.result g.ensures.answer in
    refused_line_lem a.k a.kind (path n) _ _ _ _ c.into.result (was_refused (path n) g.result _ c.in-Err.is gave) c.into.ensures c.one_line.ensures

pub returns-then-is_empty : goal.returns-then-is_empty
returns-then-is_empty c =
    let a = c.args in
    let g = c.generate_on-answer in
    let n = length a.grid.now in
    let path = generate_outcome a.centre a.alpha a.pillars.now a.sigmas.now a.times.now a.factors.now a.grid.now a.draws.now in
    let v = was_served (path n) g.result c.in_default.is (same_room path work n c.requires.1 g.result g.ensures.answer) in
    let same = path_length a.centre a.alpha a.pillars.now a.sigmas.now a.times.now a.factors.now a.grid.now a.draws.now n v.0 v.1 in
    empty_line a.k a.kind (path n) _ _ _ v.0 v.1 (same ∙ c.if-is_empty.true) c.one_line-then-is_empty.ensures

pub slice_bounds-values-end-2 : goal.slice_bounds-values-end-2
slice_bounds-values-end-2 c = let g = c.generate_on-answer in back_fits work _ c.requires.1 g.new.out g.auto.out

pub slice_bounds-point_lines-end : goal.slice_bounds-point_lines-end
slice_bounds-point_lines-end c = let g = c.generate_on-answer in back_is work _ c.requires.1 g.new.out g.auto.out

pub point_lines-requires : goal.point_lines-requires
point_lines-requires c =
    let g = c.generate_on-answer in
    omega (arith, back_is work _ c.requires.1 g.new.out g.auto.out, c.requires.1, c.requires.2)

pub returns : goal.returns
returns c =
    let a = c.args in
    let g = c.generate_on-answer in
    let n = length a.grid.now in
    let path = generate_outcome a.centre a.alpha a.pillars.now a.sigmas.now a.times.now a.factors.now a.grid.now a.draws.now in
    let v = was_served (path n) g.result c.in_default.is (same_room path work n c.requires.1 g.result g.ensures.answer) in
    let same = path_length a.centre a.alpha a.pillars.now a.sigmas.now a.times.now a.factors.now a.grid.now a.draws.now n v.0 v.1 in
    point_by_point a.k a.kind (path n) _ _ _ v.0 _ v.1 (λ z. c.if-is_empty.false (sym same ∙ z)) (values_are work n c.requires.1 g.new.out g.auto.out ∙ left_is path work n c.requires.1 v.0 g.new.out v.1 same g.ensures.output) c.point_lines.ensures
