-- `hullwhite_jamshidian::price::coupon_put` meets its contract. Assumes nothing.
use Rattle.hullwhite_jamshidian.specs.Ahead.{put_ahead}
use Rattle.hullwhite_jamshidian.proofs.price.coupon_put.Goals as goal

pub returns : goal.returns
unfolding put_ahead
returns c = rw (c.bond_put_of.ensures, c.zcb_price_volatility_at.ensures, c.zcb_price_of-strike.ensures)
