-- `quotes::black_call_of` meets its contract. Assumes nothing.
use Rattle.quotes.specs.Formulas.{black_call_of}
use Rattle.quotes.proofs.quoted.black_call_of.Goals as goal

pub returns : goal.returns
unfolding black_call_of
returns c = rw (c.fused.ensures, c.norm_cdf-2.ensures.value, c.norm_cdf.ensures.value, c.quote_d2_of.ensures, c.quote_d1_of-d1.ensures)
