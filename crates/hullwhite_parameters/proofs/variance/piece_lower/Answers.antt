-- `piece_lower` meets its contract. Assumes nothing.
use Rattle.hullwhite_parameters.proofs.variance.piece_lower.Goals as goal

pub returns-else-first : goal.returns-else-first
returns-else-first c = rw c.if-first.false c.max.ensures
