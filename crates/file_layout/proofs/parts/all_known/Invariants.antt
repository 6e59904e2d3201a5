-- `file_layout::parts::all_known` meets its contract. The loop's invariant: the jobs left have known kinds just if all have. Assumes nothing.
use mathlib.Core.Path.{◌≡◌}
use Prim.Native.Nat.{◌/◌}
use Rattle.file_layout.specs.Layout.{all_known}
use Rattle.file_layout.proofs.Walks.{known_from}
use Rattle.file_layout.proofs.parts.all_known.Given as goal

abbrev pub invariant-loop-i : goal.invariant-loop-i
invariant-loop-i l = known_from l.file l.jobs.offset (l.jobs.length / 40) l.i ≡ all_known l.file l.jobs.offset (l.jobs.length / 40)
