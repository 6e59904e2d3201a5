-- `fit_objective::market::swaption_market_price` meets its contract. Assumes nothing.
use Rattle.fit_objective.proofs.Annuity.{last_is, market_is}
use Rattle.fit_objective.proofs.market.swaption_market_price.Goals as goal

pub returns : goal.returns
returns c = market_is _ _ _ _ _ _ _ c.annuity-sum.ensures (last_is _ c.requires.1) c.vanilla_call.ensures
