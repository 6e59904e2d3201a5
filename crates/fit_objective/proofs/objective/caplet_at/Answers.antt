-- `fit_objective::objective::caplet_at` meets its contract. Assumes nothing.
use Rattle.fit_objective.specs.Ahead.{caplet_at}
use Rattle.fit_objective.proofs.objective.caplet_at.Goals as goal

pub returns : goal.returns
unfolding caplet_at
returns c = rw (c.bond_put_of-put.ensures, c.zcb_price_volatility_at-sigma_p.ensures)
