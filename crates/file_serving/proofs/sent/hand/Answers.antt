-- `file_serving::sent::hand` meets its contract: each write takes what is behind the ones before it. Assumes nothing.
use Rattle.std.proofs.Common.{rules}
use Rattle.file_serving.proofs.Handing.{taken}
use Rattle.file_serving.proofs.sent.hand.Goals as goal

pub loop-done-preserved : goal.loop-done-preserved
loop-done-preserved g c =
    let l = c.loop-done in
    let n = c.took-n in
    (search rules, taken _ _ _ l.done n.result c.args.text.now l.invariant.1 n.ensures.written)
