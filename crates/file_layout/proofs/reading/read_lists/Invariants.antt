-- `file_layout::reading::read_lists` meets its contract. The loop's invariant: the lists read so far stand at their places. Assumes nothing.
use Prim.Native.Nat.{ℕ, ◌<◌}
use Rattle.file_layout.specs.Lists.{Stands}
use Rattle.file_layout.proofs.reading.read_lists.Given as goal

abbrev pub invariant-loop-which : goal.invariant-loop-which
invariant-loop-which l = (w : ℕ) → w < l.which-index → Stands l.file l.l l.floats w
