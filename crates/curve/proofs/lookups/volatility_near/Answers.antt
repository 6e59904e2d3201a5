-- `volatility_near` meets its contract: the sigma of the last pillar that is reached, or the first, and nothing where there is no pillar.
use mathlib.Core.Path.{sym}
use Rattle.curve.proofs.Walks.{volatility_none}
use Rattle.curve.proofs.Halves.{volatility_parted}
use borrow.Author.Rules.{rules}
use Rattle.curve.proofs.lookups.volatility_near.Goals as goal

pub returns-then-times-eq0 : goal.returns-then-times-eq0
returns-then-times-eq0 c = sym (volatility_none _ _ _ c.if-times-eq0.true)

pub returns : goal.returns
returns c =
    rw c.last_of-last.ensures (sym (volatility_parted _ _ _ _ c.part_near-n.ensures c.if-times-eq0.false (search rules)))
