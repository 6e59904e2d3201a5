-- `quotes::quote_d2_of` meets its contract. Assumes nothing.
use Rattle.quotes.specs.Formulas.{quote_d2_of}
use Rattle.quotes.proofs.quoted.quote_d2_of.Goals as goal

pub returns : goal.returns
unfolding quote_d2_of
returns c = rw (← c.sqrt.ensures.equal) c.fused.ensures
