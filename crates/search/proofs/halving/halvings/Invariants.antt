-- `search::halving::halvings` meets its contract. The loop's invariant: the halvings made so far lead to this bracket. Assumes nothing.
use Rattle.std.proofs.Common.{◌≡◌}
use Rattle.search_sum.specs.Sum.{weighted_sum}
use Rattle.search.specs.Rate.{halvings_of}
use Rattle.search.proofs.HalvingSteps.{to}
use Rattle.search.proofs.halving.halvings.Given as goal

abbrev pub invariant-loop : goal.invariant-loop
invariant-loop l = halvings_of (weighted_sum l.weights l.b) l.counter l.initial.bracket ≡ to l.bracket
