-- `fit_objective::market::caplet_market_price` meets its contract. Assumes nothing.
use Rattle.fit_objective.specs.Market.{caplet_market_price_of}
use Rattle.fit_objective.proofs.market.caplet_market_price.Goals as goal

pub returns : goal.returns
unfolding caplet_market_price_of
returns c = rw c.vanilla_call.ensures
