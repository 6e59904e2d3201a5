-- `ieee::sum::fused_finite` meets its contract. The sum of the two terms, rounded once. Assumes nothing.
use mathlib.Core.Path.{◌∙◌}
use Rattle.ieee.proofs.sum.fused_finite.Goals as goal

pub returns : goal.returns
returns c = c.round.ensures ∙ c.added-m.ensures.value ∙ c.terms_of-t.ensures.value
