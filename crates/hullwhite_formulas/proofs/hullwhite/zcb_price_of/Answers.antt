-- `hullwhite_formulas::zcb_price_of` meets its contract. Assumes nothing.
use Rattle.hullwhite_formulas.specs.HullWhite.{zcb_price_of}
use Rattle.hullwhite_formulas.proofs.hullwhite.zcb_price_of.Goals as goal

pub returns : goal.returns
unfolding zcb_price_of
returns c = rw c.exp.ensures.value
