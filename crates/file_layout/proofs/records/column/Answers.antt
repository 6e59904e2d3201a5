-- `file_layout::records::column` meets its contract. The loop's invariant: the floats written, and behind them those of the records left, are the whole column. Assumes nothing.
use mathlib.Core.Path.{sym, ◌∙◌, ap}
use Rattle.file_layout.specs.Request.{floats_from}
use Rattle.file_layout.proofs.Walks.{turn, end}
use Rattle.file_layout.proofs.records.column.Goals as goal

pub loop-i-preserved : goal.loop-i-preserved
loop-i-preserved c =
    turn _ _ _ _ _ c.loop-i.i c.loop-i.out _ c.loop-i.auto.out c.loop-i-test.true c.float_at.ensures ∙ c.loop-i.invariant

pub returns : goal.returns
returns c =
    sym (end c.args.file.now c.args.width c.args.field c.args.part.offset _ c.loop-i.i c.loop-i.out c.loop-i.auto.out c.loop-i-test.false)
    ∙ c.loop-i.invariant
    ∙ ap (floats_from _ c.args.width c.args.field c.args.part.offset) c.requires.out_len
