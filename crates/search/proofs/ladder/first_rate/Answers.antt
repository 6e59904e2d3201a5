-- `search::ladder::first_rate` meets its contract. Assumes nothing.
use Rattle.search.proofs.LadderSteps.{first_below, first_above}
use Rattle.search.proofs.ladder.first_rate.Goals as goal

pub returns-then-below : goal.returns-then-below
returns-then-below c = first_below _ c.if-below.true

pub returns-else-below : goal.returns-else-below
returns-else-below c = first_above _ c.if-below.false
