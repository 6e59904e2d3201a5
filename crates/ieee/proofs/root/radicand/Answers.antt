-- `ieee::root::radicand` meets its contract. An odd exponent lends a factor of 2. Assumes nothing.
use Rattle.ieee.proofs.Rooting.{even_radicand, odd_radicand}
use Rattle.ieee.proofs.root.radicand.Goals as goal

pub returns-then-exp-eq0 : goal.returns-then-exp-eq0
returns-then-exp-eq0 c = even_radicand c.args.sig c.args.exp c.requires.0 c.requires.1 c.if-exp-eq0.true

pub returns-else-exp-eq0 : goal.returns-else-exp-eq0
returns-else-exp-eq0 c = odd_radicand c.args.sig c.args.exp c.requires.0 c.requires.1 c.if-exp-eq0.false
