-- `hullwhite_formulas::state_deviation_at` meets its contract. Assumes nothing.
use Rattle.hullwhite_formulas.specs.HullWhite.{state_deviation_at}
use Rattle.hullwhite_formulas.proofs.hullwhite.state_deviation_at.Goals as goal

pub returns : goal.returns
unfolding state_deviation_at
returns c = rw c.sqrt.ensures.equal
