-- `file_output::jobs::one_line` meets its contract: the line stands at the front. Assumes nothing.
use mathlib.Core.List.{[]}
use native.Mathlib.Omega.{arith}
use Rattle.file_fields.specs.Fields.{bits_of}
use Rattle.file_lines.specs.Lines.{line_of}
use Rattle.file_fields.proofs.Writing.{start, next, begins}
use Rattle.file_output.proofs.jobs.one_line.Goals as goal

pub returns : goal.returns
returns c =
    let l = c.args.l in
    let d = c.args.out.now in
    let w = c.write_line.ensures in
    let line = line_of l.job l.kind l.answer (bits_of l.value) l.note in
    begins _ line d _ (next 0 [] d d (start d) _ line _ (omega (arith, w.end.0, w.end.1, c.requires)) w.end.0 w.output)
