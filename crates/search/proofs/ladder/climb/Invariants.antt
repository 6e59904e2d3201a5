-- `search::ladder::climb` meets its contract. The loop's invariant: the rate is that of the rung, and no rung before it found anything. Assumes nothing.
use Rattle.std.proofs.Common.{◌≡◌, ◌-◌, ◌≤◌}
use Rattle.search_sum.specs.Sum.{weighted_sum}
use Rattle.search.specs.Rate.{rate_at, ladder_of}
use Rattle.search.proofs.LadderSteps.{nothing}
use Rattle.search.proofs.ladder.climb.Given as goal

abbrev pub invariant-loop-sum : goal.invariant-loop-sum
invariant-loop-sum l = (l.number ≤ 60) × (l.rate ≡ rate_at l.below l.number) × (ladder_of (weighted_sum l.weights l.b) l.below l.number ≡ nothing)

abbrev pub decreases-loop-sum : goal.decreases-loop-sum
decreases-loop-sum l = 60 - l.number
