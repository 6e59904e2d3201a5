-- `hullwhite_points::walk::shift_of` meets its contract: the shift that the centre names. Assumes nothing.
use Rattle.hullwhite_points.specs.Path.{generate_shift_of}
use Rattle.hullwhite_points.proofs.walk.shift_of.Goals as goal

pub returns-in-StateVariance : goal.returns-in-StateVariance
unfolding generate_shift_of
returns-in-StateVariance c = rw c.in-StateVariance.is (cc)

pub returns-in-Published : goal.returns-in-Published
returns-in-Published c = rw c.in-Published.is (cc)
