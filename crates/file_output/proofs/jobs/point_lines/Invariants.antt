-- `file_output::jobs::point_lines` meets its contract. The loop's invariant: the output begins with the lines of the first i points. Assumes nothing.
use mathlib.Core.Path.{◌≡◌}
use Prim.Native.Nat.{◌*◌, ◌≤◌}
use lib.ListN.{length, take}
use Rattle.file_fields.proofs.Writing.{Begun}
use Rattle.file_output.specs.Output.{point_lines}
use Rattle.file_output.proofs.jobs.point_lines.Given as goal

abbrev pub invariant-loop-i : goal.invariant-loop-i
invariant-loop-i l = (length l.out ≡ length l.initial.out) × (l.at ≤ 128 * l.i) × Begun l.at (point_lines l.k l.kind 0 (take l.i l.values)) l.initial.out l.out
