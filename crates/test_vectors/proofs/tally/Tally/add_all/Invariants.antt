-- `test_vectors::tally::Tally::add_all` meets its contract: what is counted so far, with the records that are left, makes up the whole. Assumes nothing.
use Rattle.std.proofs.Common.{◌≡◌, ◌-◌, ◌*◌}
use Rattle.test_vectors.specs.Counting.{records_from, differing_from}
use Rattle.test_vectors.proofs.tally.Tally.add_all.Given as goal

abbrev pub invariant-loop-i : goal.invariant-loop-i
invariant-loop-i l = (records_from (l.i-end - l.i) l.self.total.seen ≡ records_from l.i-end l.fn.self.total.seen)
    × (differing_from l.s (40 * l.i) (l.i-end - l.i) l.self.total.differ ≡ differing_from l.s 0 l.i-end l.fn.self.total.differ)
