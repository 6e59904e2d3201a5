-- `file_lines::lines::write_line` meets its contract: each field is put behind the one before it. Assumes nothing.
use native.Mathlib.Omega.{arith}
use lib.ListN.{take}
use Rattle.file_lines.specs.Lines.{line_of}
use Rattle.file_fields.proofs.Writing.{start_at, next_part, five_from_there}
use Rattle.file_lines.proofs.lines.write_line.Goals as goal

pub returns : goal.returns
unfolding line_of
returns c =
    let at = c.args.at in
    let d = c.args.out.now in
    let here = start_at d at (omega (arith, c.requires)) in
    let job = next_part at (take at d) d d here c.put_decimal-end.result _ _ c.put_decimal-end.ensures.written c.put_decimal-end.auto.out in
    let kind = next_part _ _ d _ job c.put_decimal-end-2.result _ _ c.put_decimal-end-2.ensures.written c.put_decimal-end-2.auto.out in
    let answer = next_part _ _ d _ kind c.put_decimal-end-3.result _ _ c.put_decimal-end-3.ensures.written c.put_decimal-end-3.auto.out in
    let value = next_part _ _ d _ answer c.put_hex-end.result _ _ c.put_hex-end.ensures.written c.put_hex-end.auto.out in
    let note = next_part _ _ d _ value c.put_decimal-end-4.result _ _ c.put_decimal-end-4.ensures.written c.put_decimal-end-4.auto.out in
    let w = five_from_there _ at _ _ _ _ _ d _ (omega (arith, c.requires)) note in
    rw (← c.bits_of.ensures) (record { end = (w.0, omega arith); output = w.1 })
