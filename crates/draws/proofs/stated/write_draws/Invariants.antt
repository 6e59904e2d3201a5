-- `draws::stated::write_draws` meets its contract: the draws written and those of the state reached are all of them. Assumes nothing.
use lib.ListN.{length}
use Rattle.draws.proofs.Lists.{Writing}
use Rattle.draws.proofs.stated.write_draws.Given as goal

abbrev pub invariant-loop-x : goal.invariant-loop-x
invariant-loop-x l = Writing l.seed (length l.initial.out) l.x-index l.state l.out
