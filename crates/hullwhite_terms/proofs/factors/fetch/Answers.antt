-- `fetch` meets its contract: each turn of its loop writes the next factor, and a missing one ends it.
use Rattle.curve.proofs.Outcomes.{at, missing}
use Rattle.hullwhite_terms.proofs.Fetching.{start, turn, stop, end}
use Rattle.hullwhite_terms.proofs.factors.fetch.Goals as goal

pub loop-i-init : goal.loop-i-init
loop-i-init c = start c.requires.0

pub returns-in_default : goal.returns-in_default
returns-in_default c = stop c.loop-i-test.true (missing _ c.in_default.is c.factor.ensures) c.loop-i.invariant

pub loop-i-preserved : goal.loop-i-preserved
loop-i-preserved c =
    turn c.loop-i-test.true (at _ c.in-Some.is c.factor.ensures) c.loop-i.invariant

pub returns : goal.returns
returns c = end c.loop-i-test.false c.loop-i.invariant
