-- `pricer_formulas::sums_after` meets its contract. Assumes nothing.
use Rattle.pricer_formulas.specs.Newton.{sums_after}
use Rattle.pricer_formulas.proofs.newton.sums_after.Goals as goal

pub returns : goal.returns
unfolding sums_after
returns c = rw c.bond_at-bond.ensures
