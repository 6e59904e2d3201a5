-- `ieee::sum::times` meets its contract. A product is 0, or has 121 digits at least. Assumes nothing.
use Rattle.std.proofs.Common.{◌∙◌, sym}
use Rattle.ieee.proofs.Summing.{times_zero, times_pos}
use Rattle.ieee.proofs.sum.times.Goals as goal

pub returns-then-v-eq0-clause-value : goal.returns-then-v-eq0-clause-value
returns-then-v-eq0-clause-value c =
    rw c.product-v.ensures (times_zero c.args.x.sig c.args.x.exp c.args.y.sig c.args.y.exp c.args.x.normal c.args.y.normal (sym c.product-v.ensures ∙ c.if-v-eq0.true))

pub returns-else-v-eq0-clause-value : goal.returns-else-v-eq0-clause-value
returns-else-v-eq0-clause-value c =
    rw c.product-v.ensures (times_pos c.args.x.sig c.args.x.exp c.args.y.sig c.args.y.exp c.args.x.normal c.args.y.normal (λ z. c.if-v-eq0.false (c.product-v.ensures ∙ z)))
