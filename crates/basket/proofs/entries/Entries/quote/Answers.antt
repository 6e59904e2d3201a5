-- `basket::entries::Entries::quote` meets its contract. Assumes nothing.
use Rattle.basket.proofs.entries.Entries.quote.Goals as goal

pub returns : goal.returns
returns c = rw c.volatility_type_of.ensures
