-- `file_output::jobs::point_lines` meets its contract. The loop's invariant: the output begins with the lines of the first i points. Assumes nothing.
use borrow.Author.Rules.{rules}
use mathlib.Core.Path.{refl, ◌∙◌}
use native.Mathlib.Omega.{arith}
use lib.ListN.{take, get_or}
use lib.Seq.{take_all}
use lib.Ieee.{nan}
use Rattle.file_fields.specs.Fields.{bits_of}
use Rattle.file_lines.specs.Lines.{line_of}
use Rattle.file_fields.proofs.Writing.{start, next, begins}
use Rattle.file_output.specs.Output.{point_lines}
use Rattle.file_output.proofs.Points.{points_turn}
use Rattle.file_output.proofs.jobs.point_lines.Goals as goal

pub loop-i-init : goal.loop-i-init
unfolding point_lines
loop-i-init c = (refl, search rules, start c.args.out.now)

pub write_line-at-requires : goal.write_line-at-requires
write_line-at-requires c =
    omega (arith, c.loop-i.invariant.0, c.loop-i.invariant.1, c.loop-i-test.true, c.requires)

pub loop-i-preserved : goal.loop-i-preserved
loop-i-preserved c =
    let t = c.loop-i-test.true in
    let a = c.args in
    let d = a.out.now in
    let values = a.values.now in
    let call = c.write_line-at in
    let w = call.ensures in
    let line = line_of a.k a.kind 0 (bits_of (get_or values c.loop-i.i nan)) c.loop-i.i in (
      call.auto.out ∙ c.loop-i.invariant.0,
      omega (arith, w.end.1, c.loop-i.invariant.1),
      rw (points_turn a.k a.kind values c.loop-i.i t) (next c.loop-i.at (point_lines a.k a.kind 0 (take c.loop-i.i values)) d c.loop-i.out c.loop-i.invariant.2 _ line _ (omega (arith, t, w.end.0, w.end.1, c.loop-i.invariant.1, c.requires)) w.end.0 w.output),
    )

pub shape_of-out : goal.shape_of-out
shape_of-out c = c.loop-i.invariant.0

pub returns : goal.returns
returns c =
    let a = c.args in
    begins _ _ a.out.now _ (rw (take_all c.loop-i.i a.values.now c.loop-i-test.false) at c.loop-i.invariant.2)
