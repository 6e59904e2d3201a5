-- `piece` meets its contract. Assumes nothing.
use Rattle.hullwhite_parameters.specs.Variance.{variance_piece_of}
use Rattle.hullwhite_parameters.proofs.variance.piece.Goals as goal

pub returns-then-upper-lower : goal.returns-then-upper-lower
unfolding variance_piece_of
returns-then-upper-lower c = rw c.if-upper-lower.true

pub returns-else-upper-lower : goal.returns-else-upper-lower
unfolding variance_piece_of
returns-else-upper-lower c = rw c.if-upper-lower.false (cc)
