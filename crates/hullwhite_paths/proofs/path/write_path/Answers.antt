-- `hullwhite_paths::path::write_path` meets its contract: the walk along the grid turns the call down, or the points of the whole grid are handed to `finish`. Assumes nothing.
use mathlib.Core.Path.{refl, sym, ◌∙◌}
use mathlib.Core.List.{List}
use lib.ListN.{replicate}
use lib.Ieee.{Float}
use Rattle.ieee.specs.Numbers.{zero}
use Rattle.refusals.proofs.Outcomes.{handed_on, turned_down, let_through}
use Rattle.refusals.proofs.Lending.{lent_is, back_fits, back_is, values_are}
use Rattle.hullwhite_paths.proofs.path.write_path.Goals as goal

-- the working list
abbrev work : List Float
work = replicate 1024 zero

pub slice_bounds-work-end : goal.slice_bounds-work-end
slice_bounds-work-end c = c.requires.0

pub slice_bounds-walk_grid-end : goal.slice_bounds-walk_grid-end
slice_bounds-walk_grid-end c = lent_is work _ c.requires.0

pub walk_grid-requires : goal.walk_grid-requires
walk_grid-requires c = let p = c.requires in (sym (lent_is work _ p.0), p.1, p.2, p.3)

pub returns-in_err-walk_grid : goal.returns-in_err-walk_grid
returns-in_err-walk_grid c = rw (handed_on c.from_residual.ensures.1, c.walk_grid.ensures ∙ turned_down _ _ c.in_err-walk_grid.was refl) record { answer = refl; output = refl }

pub slice_bounds-work-end-2 : goal.slice_bounds-work-end-2
slice_bounds-work-end-2 c = back_fits work _ c.requires.0 c.walk_grid.new.out c.walk_grid.auto.out

pub slice_bounds-finish-end : goal.slice_bounds-finish-end
slice_bounds-finish-end c = back_is work _ c.requires.0 c.walk_grid.new.out c.walk_grid.auto.out

pub finish-requires : goal.finish-requires
finish-requires c = rw (← back_is work _ c.requires.0 c.walk_grid.new.out c.walk_grid.auto.out) c.requires.4

pub returns : goal.returns
returns c =
    let w = values_are work _ c.requires.0 c.walk_grid.new.out c.walk_grid.auto.out in
    rw (c.walk_grid.ensures ∙ let_through _ _ c.in_ok-walk_grid.was refl, ← w) record { answer = c.finish.ensures.answer; output = c.finish.ensures.output }
