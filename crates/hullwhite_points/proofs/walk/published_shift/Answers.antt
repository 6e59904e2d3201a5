-- `hullwhite_points::walk::published_shift` meets its contract: each operation of the formula in its order. Assumes nothing.
use Rattle.hullwhite_points.specs.Path.{published_shift_of}
use Rattle.hullwhite_points.proofs.walk.published_shift.Goals as goal

pub returns : goal.returns
unfolding published_shift_of
returns c = rw c.exp.ensures.value
