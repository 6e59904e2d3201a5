-- `draws::xorshift::twelve_steps` meets its contract: what is added so far and what the steps that are left will add come to the whole sum. Assumes nothing.
use Rattle.std.proofs.Common.{◌-◌}
use Rattle.draws.proofs.Sums.{Summing}
use Rattle.draws.proofs.xorshift.twelve_steps.Given as goal

abbrev pub invariant-loop : goal.invariant-loop
invariant-loop l = Summing l.seed (12 - l.counter) l.sum l.state
