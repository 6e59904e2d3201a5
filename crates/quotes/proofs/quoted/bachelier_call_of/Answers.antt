-- `quotes::bachelier_call_of` meets its contract. Assumes nothing.
use Rattle.quotes.specs.Formulas.{bachelier_call_of}
use Rattle.quotes.proofs.quoted.bachelier_call_of.Goals as goal

pub returns : goal.returns
unfolding bachelier_call_of
returns c = rw (c.fused.ensures, c.norm_cdf.ensures.value, c.norm_pdf.ensures, c.sqrt.ensures.equal)
