-- `file_layout::input::fill` meets its contract: each read stands behind the ones before it. Assumes nothing.
use Rattle.std.proofs.Common.{rules}
use Rattle.file_layout.proofs.Filling.{filled}
use Rattle.file_layout.proofs.input.fill.Goals as goal

pub loop-done-preserved : goal.loop-done-preserved
loop-done-preserved g c =
    let l = c.loop-done in
    let n = c.got-n in
    (search rules, search rules, filled _ _ _ l.done n.result l.out n.new.out _ l.invariant.0 n.ensures.bound l.invariant.2 n.ensures.read)
