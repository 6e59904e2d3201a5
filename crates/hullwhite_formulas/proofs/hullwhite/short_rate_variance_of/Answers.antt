-- `hullwhite_formulas::short_rate_variance_of` meets its contract. Assumes nothing.
use Rattle.hullwhite_formulas.specs.HullWhite.{stationary_share_of, short_rate_variance_of}
use Rattle.hullwhite_formulas.proofs.hullwhite.short_rate_variance_of.Goals as goal

pub returns : goal.returns
unfolding short_rate_variance_of stationary_share_of
returns c = rw c.stationary_share_of.ensures
