-- `quotes::quote_d1_of` meets its contract. Assumes nothing.
use Rattle.quotes.specs.Formulas.{quote_d1_of}
use Rattle.quotes.proofs.quoted.quote_d1_of.Goals as goal

pub returns : goal.returns
unfolding quote_d1_of
returns c = rw (c.fused.ensures, c.ln.ensures.value, c.sqrt-sqrt_tau.ensures.equal)
