-- `ieee_chains::fixed::fixed_last` meets its contract: by the laws of the sum, as `fixed_step`. Assumes nothing.
use mathlib.Core.Path.{◌∙◌}
use Rattle.ieee_chains.proofs.Fixing.{sum_is}
use Rattle.ieee_chains.proofs.fixed.fixed_last.Goals as goal

pub returns : goal.returns
returns c =
    let s = c.sum.result in
    λ x z k A Z C.
    c.packed.ensures ∙ sum_is c.args.a c.args.y c.args.c s.whole s.sticky c.sum.ensures.0 c.sum.ensures.1 s.over c.args.places x z k c.requires.2 A Z C
