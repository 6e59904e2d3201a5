-- `draws::xorshift::step` meets its contract: the three shifts, each put onto the state. Assumes nothing.
use borrow.Author.Rules.{rules}
use Rattle.draws.specs.Xorshift.{step_of, left_of, right_of}
use Rattle.draws.proofs.xorshift.step.Goals as goal

pub returns : goal.returns
unfolding step_of left_of right_of
returns c = search rules
