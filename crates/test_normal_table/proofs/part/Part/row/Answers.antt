-- `test_normal_table::part::Part::row` meets its contract: the arrays are the lists of the tables. Assumes nothing.
use Rattle.std.proofs.Common.{◌%◌, ne_eqb, arith}
use Rattle.test_normal_table.specs.Parts.{part_met, cumulative_met, point_met, fine_met, coarse_met, wrong_met}
use Rattle.test_normal_table.proofs.part.Part.row.Goals as goal
use Rattle.test_normal_table.proofs.part.Part.row.Goals.{in-Cumulative, in-Point, in-Fine, in-Coarse, in-FineWider, in-Wrong+in-0, in-Wrong+in-1, in-Wrong+in_default}

pub returns : goal.returns
unfolding part_met cumulative_met point_met fine_met coarse_met wrong_met
returns c = λ normal negative. elim c.match-self.branch [
  | in-Cumulative w ↦ rw (w.result-is, w.in-Cumulative.is)
  | in-Point w ↦ rw (w.result-is, w.in-Point.is)
  | in-Fine w ↦ rw (w.result-is, w.in-Fine.is)
  | in-Coarse w ↦ rw (w.result-is, w.in-Coarse.is)
  | in-FineWider w ↦ rw (w.result-is, w.in-FineWider.is)
  | in-Wrong+in-0 w ↦ rw (w.result-is, w.in-Wrong.is, w.in-0.is)
  | in-Wrong+in-1 w ↦ rw (w.result-is, w.in-Wrong.is, w.in-1.is)
  | in-Wrong+in_default w ↦ rw (w.result-is, w.in-Wrong.is, ne_eqb (c.args.i % 3) 0 (λ e. omega arith), ne_eqb (c.args.i % 3) 1 (λ e. omega arith))
]
