-- `math_normal::norm_cdf_two` meets its contract: by what `quotients` gives, or the two exps and `upper`, and by `below`. Assumes nothing.
use Rattle.ieee.specs.Fused.{fused_of}
use Rattle.math_normal.proofs.Joining.{joined}
use Rattle.math_normal.proofs.normal.norm_cdf_two.Goals as goal

pub returns-then-both_near : goal.returns-then-both_near
returns-then-both_near c =
    (joined fused_of _ _ _ _ c.abs-u.ensures c.quotients-q.ensures.0 c.below.ensures, joined fused_of _ _ _ _ c.abs-v.ensures c.quotients-q.ensures.1 c.below-then-both_near.ensures)

pub returns-else-both_near : goal.returns-else-both_near
returns-else-both_near c =
    (joined fused_of _ _ _ _ c.abs-u.ensures c.upper.ensures c.below-else-both_near.ensures, joined fused_of _ _ _ _ c.abs-v.ensures c.upper-else-both_near.ensures c.below-else-both_near-2.ensures)
