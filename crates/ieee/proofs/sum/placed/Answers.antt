-- `ieee::sum::placed` meets its contract. The significand is the upper word. Assumes nothing.
use Rattle.ieee.proofs.Summing.{placed_pos}
use Rattle.ieee.proofs.sum.placed.Goals as goal

pub returns-else-z-eq0-clause-value : goal.returns-else-z-eq0-clause-value
returns-else-z-eq0-clause-value c = rw c.above.ensures (placed_pos c.args.z.sig c.args.z.exp c.args.z.normal c.if-z-eq0.false)
