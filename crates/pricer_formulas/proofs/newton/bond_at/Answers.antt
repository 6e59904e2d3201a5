-- `pricer_formulas::bond_at` meets its contract. Assumes nothing.
use Rattle.pricer_formulas.specs.Newton.{bond_at}
use Rattle.pricer_formulas.proofs.newton.bond_at.Goals as goal

pub returns : goal.returns
unfolding bond_at
returns c = rw c.exp.ensures.value
