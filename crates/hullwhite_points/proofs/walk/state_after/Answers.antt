-- `hullwhite_points::walk::state_after` meets its contract: each operation of the step in its order. Assumes nothing.
use Rattle.hullwhite_points.specs.Path.{state_after}
use Rattle.hullwhite_points.proofs.walk.state_after.Goals as goal

pub returns : goal.returns
unfolding state_after
returns c = rw (c.fused.ensures, c.sqrt.ensures.equal, c.fused-variance.ensures, c.requires)
