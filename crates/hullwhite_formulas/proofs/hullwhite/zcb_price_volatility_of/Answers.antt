-- `hullwhite_formulas::zcb_price_volatility_of` meets its contract: what B, the variance and the root are, put in. Assumes nothing.
use Rattle.hullwhite_formulas.specs.HullWhite.{state_deviation_of, zcb_price_volatility_ahead}
use Rattle.hullwhite_formulas.proofs.hullwhite.zcb_price_volatility_of.Goals as goal

pub returns : goal.returns
unfolding state_deviation_of
returns c =
    let d = c.volatility_parts-d.ensures in
    rw (c.zcb_price_volatility_at.ensures, c.sqrt.ensures.equal, d.0, d.1) (zcb_price_volatility_ahead _ _ _ _)
