-- `file_layout::reading::list` meets its contract: the list's own part of its place. Assumes nothing.
use mathlib.Core.Path.{ap}
use native.Mathlib.Omega.{arith}
use Rattle.file_layout.specs.declared.reading.Column.{Column}
use Rattle.file_layout.specs.Lists.{number}
use Rattle.file_layout.proofs.Places.{below_nine, listed_at, own_part}
use Rattle.file_layout.proofs.reading.list.Goals as goal

pub slice_bounds-result-end : goal.slice_bounds-result-end
slice_bounds-result-end c =
    let z = listed_at c.args.file.now c.args.l c.requires.0 (number c.args.which) (below_nine c.args.which) _ c.column-c.ensures in
    omega (arith, z.room, c.requires.1.room, c.end.ensures)

pub returns : goal.returns
returns c =
    let z = listed_at c.args.file.now c.args.l c.requires.0 (number c.args.which) (below_nine c.args.which) _ c.column-c.ensures in
    own_part c.args.file.now c.args.l c.args.floats.now (number c.args.which) _ _ _ (ap (λ (k : Column). k.place) c.column-c.ensures) c.end.ensures z.count (c.requires.1.lists _ (below_nine c.args.which))
