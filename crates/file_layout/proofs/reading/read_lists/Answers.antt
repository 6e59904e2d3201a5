-- `file_layout::reading::read_lists` meets its contract. The loop's invariant: the lists read so far stand at their places. Assumes nothing.
use mathlib.Core.Path.{◌∙◌, ap}
use native.Mathlib.Omega.{arith}
use Rattle.file_layout.specs.declared.reading.Column.{Column}
use Rattle.file_layout.specs.declared.reading.Which.TheVariants.{PillarTimes}
use Rattle.file_layout.proofs.Places.{in_order, listed_at, one_more}
use Rattle.file_layout.proofs.reading.read_lists.Goals as goal

pub slice_bounds-list-end : goal.slice_bounds-list-end
slice_bounds-list-end c =
    let l = c.loop-which in
    let h = c.loop-which-test.true in
    let k = rw (in_order PillarTimes l.which-index h) at c.column-c.ensures in
    let z = listed_at c.args.file.now c.args.l c.requires.0 l.which-index h _ k in
    omega (arith, z.room, c.end.ensures, l.auto.floats, c.requires.1)

pub column-requires-clause-part_in_bounds : goal.column-requires-clause-part_in_bounds
column-requires-clause-part_in_bounds c =
    let l = c.loop-which in
    let h = c.loop-which-test.true in
    let k = rw (in_order PillarTimes l.which-index h) at c.column-c.ensures in
    let z = listed_at c.args.file.now c.args.l c.requires.0 l.which-index h _ k in
    z.inside

pub loop-which-preserved : goal.loop-which-preserved
loop-which-preserved c =
    let l = c.loop-which in
    let h = c.loop-which-test.true in
    let k = rw (in_order PillarTimes l.which-index h) at c.column-c.ensures in
    let z = listed_at c.args.file.now c.args.l c.requires.0 l.which-index h _ k in
    one_more c.args.file.now c.args.l c.requires.0 l.which-index h _ _ (ap (λ (k : Column). k.place) k) l.floats _ (omega (arith, z.room, l.auto.floats, c.requires.1)) (c.column.ensures ∙ z.is) l.invariant
