-- `test_normal_table::part::Part::counted` meets its contract: at row i the count is that of the rows before it. Assumes nothing.
use Rattle.std.proofs.Common.{◌≡◌, true, false, add-one, arith}
use Rattle.test_normal_table.specs.Parts.{rows_of}
use Rattle.test_normal_table.specs.Tally.{met_in, missed_in}
use Rattle.test_normal_table.proofs.part.Part.counted.Goals as goal

pub loop-i-init : goal.loop-i-init
unfolding met_in missed_in
loop-i-init g c = c.default-count.ensures

pub loop-i-preserved : goal.loop-i-preserved
unfolding met_in missed_in
loop-i-preserved g c =
    let up = c.add.ensures in
    let down = c.add-in-loop-i.ensures in
    let is = c.row-row.ensures c.args.normal in
    let before = c.loop-i.invariant in (
      rw (add-one, down.met, up.met, before.0, c.is_met-in-loop-i.ensures, is true, c.is_met.ensures, is false),
      rw (add-one, down.missed, up.missed, before.1, c.is_met-in-loop-i.ensures, is true, c.is_met.ensures, is false),
    )

pub returns : goal.returns
returns g c =
    let end : c.loop-i.i ≡ rows_of c.args.self = omega arith in
    rw (← end) (record { met = c.loop-i.invariant.0; missed = c.loop-i.invariant.1 })
