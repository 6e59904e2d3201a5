-- `served` meets its contract: rule 13 asks whether the value is finite.
use mathlib.Core.Path.{sym, ◌∙◌}
use Rattle.refusals.proofs.refusals.served.Goals as goal

pub returns-then-is_finite : goal.returns-then-is_finite
returns-then-is_finite c = rw (sym c.is_finite.ensures ∙ c.if-is_finite.true)

pub returns-else-is_finite : goal.returns-else-is_finite
returns-else-is_finite c = rw (sym c.is_finite.ensures ∙ c.if-is_finite.false)
