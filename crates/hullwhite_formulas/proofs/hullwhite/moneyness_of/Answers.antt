-- `hullwhite_formulas::moneyness_of` meets its contract. Assumes nothing.
use Rattle.hullwhite_formulas.specs.HullWhite.{moneyness_of}
use Rattle.hullwhite_formulas.proofs.hullwhite.moneyness_of.Goals as goal

pub returns : goal.returns
unfolding moneyness_of
returns c = c.ln.ensures.value
