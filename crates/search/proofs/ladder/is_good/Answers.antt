-- `search::ladder::is_good` meets its contract. Assumes nothing.
use Rattle.search.proofs.LadderSteps.{good_below, good_above}
use Rattle.search.proofs.ladder.is_good.Goals as goal

pub returns-then-below : goal.returns-then-below
returns-then-below c = good_below _ _ c.if-below.true

pub returns-else-below : goal.returns-else-below
returns-else-below c = good_above _ _ c.if-below.false
