-- `piece_upper` meets its contract. Assumes nothing.
use mathlib.Core.Path.{sym, ◌∙◌}
use Rattle.hullwhite_parameters.proofs.Walks.{upper_next, upper_end}
use Rattle.hullwhite_parameters.proofs.variance.piece_upper.Goals as goal

pub returns-then-j-times : goal.returns-then-j-times
returns-then-j-times c = c.min.ensures ∙ sym (upper_next _ _ _ c.if-j-times.true)

pub returns-else-j-times : goal.returns-else-j-times
returns-else-j-times c = sym (upper_end _ _ _ c.if-j-times.false)
