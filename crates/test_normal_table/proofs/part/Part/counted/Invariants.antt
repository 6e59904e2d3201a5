-- `test_normal_table::part::Part::counted` meets its contract: at row i the count is that of the rows before it. Assumes nothing.
use Rattle.std.proofs.Common.{◌≡◌}
use Rattle.test_normal_table.specs.Parts.{part_met}
use Rattle.test_normal_table.specs.Tally.{met_in, missed_in}
use Rattle.test_normal_table.proofs.part.Part.counted.Given as goal

abbrev pub invariant-loop-i : goal.invariant-loop-i
invariant-loop-i g l = (l.count.met ≡ met_in (part_met l.self l.normal) l.i) × (l.count.missed ≡ missed_in (part_met l.self l.normal) l.i)
