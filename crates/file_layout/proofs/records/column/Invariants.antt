-- `file_layout::records::column` meets its contract. The loop's invariant: the floats written, and behind them those of the records left, are the whole column. Assumes nothing.
use mathlib.Core.Path.{◌≡◌}
use lib.ListN.{length}
use Rattle.file_layout.specs.Request.{floats_from}
use Rattle.file_layout.proofs.Walks.{so_far}
use Rattle.file_layout.proofs.records.column.Given as goal

abbrev pub invariant-loop-i : goal.invariant-loop-i
invariant-loop-i l = so_far l.file l.width l.field l.part.offset (length l.fn.out) l.i l.out ≡ floats_from l.file l.width l.field l.part.offset (length l.fn.out)
