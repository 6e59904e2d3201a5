-- `math_normal::by` meets its contract: by what `upper` and `below` give. Assumes nothing.
use Rattle.math_normal.proofs.Joining.{joined}
use Rattle.math_normal.proofs.normal.by.Goals as goal

pub returns : goal.returns
returns g c = joined g.S.Step.step_of _ _ _ _ c.abs-z.ensures c.upper.ensures c.below.ensures
