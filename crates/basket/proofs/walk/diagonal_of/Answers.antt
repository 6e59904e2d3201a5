-- `basket::walk::diagonal_of` meets its contract. Assumes nothing.
use Rattle.basket.specs.Basket.{diagonal_of}
use Rattle.basket.proofs.Literals.{bump_is}
use Rattle.basket.proofs.walk.diagonal_of.Goals as goal

pub returns : goal.returns
unfolding diagonal_of
returns c = rw (← bump_is)
