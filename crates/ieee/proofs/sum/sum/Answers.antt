-- `ieee::sum::sum` meets its contract. Its four returns are the four cases of lib.Ieee's `sum`. Assumes nothing.
use Rattle.ieee.proofs.Summing.{like_total, more_total, less_total, level_total}
use Rattle.ieee.proofs.sum.sum.Goals as goal

pub returns-then-x-y : goal.returns-then-x-y
returns-then-x-y c = like_total c.args.x.v c.args.x.exp c.args.y.v c.args.y.exp c.jam-w.result c.args.x.sign c.args.y.sign c.requires.0 c.requires.1 c.requires.2 c.jam-w.ensures c.if-x-y.true

pub returns-then-w-x : goal.returns-then-w-x
returns-then-w-x c = more_total c.args.x.v c.args.x.exp c.args.y.v c.args.y.exp c.jam-w.result c.args.x.sign c.args.y.sign c.requires.0 c.requires.1 c.requires.2 c.jam-w.ensures c.if-x-y.false c.if-w-x.true

pub returns-then-x-w : goal.returns-then-x-w
returns-then-x-w c = less_total c.args.x.v c.args.x.exp c.args.y.v c.args.y.exp c.jam-w.result c.args.x.sign c.args.y.sign c.requires.0 c.requires.1 c.requires.2 c.jam-w.ensures c.if-x-y.false c.if-x-w.true

pub returns-else-x-w : goal.returns-else-x-w
returns-else-x-w c = level_total c.args.x.v c.args.x.exp c.args.y.v c.args.y.exp c.jam-w.result c.args.x.sign c.args.y.sign c.requires.0 c.requires.1 c.requires.2 c.jam-w.ensures c.if-x-y.false c.if-w-x.false c.if-x-w.false
