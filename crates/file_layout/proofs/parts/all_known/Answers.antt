-- `file_layout::parts::all_known` meets its contract. The loop's invariant: the jobs left have known kinds just if all have. Assumes nothing.
use mathlib.Core.Path.{◌∙◌}
use Rattle.file_layout.proofs.Walks.{known_on, known_not, known_end}
use Rattle.file_layout.proofs.parts.all_known.Goals as goal

pub returns-then-not-known : goal.returns-then-not-known
returns-then-not-known c = known_not _ _ _ c.loop-i.i _ c.loop-i-test.true c.word.ensures c.if-not-known.ensures ∙ c.loop-i.invariant

pub loop-i-preserved : goal.loop-i-preserved
loop-i-preserved c = known_on _ _ _ c.loop-i.i _ c.loop-i-test.true c.word.ensures c.if-not-known.ensures ∙ c.loop-i.invariant

pub returns : goal.returns
returns c = known_end _ _ _ c.loop-i.i c.loop-i-test.false ∙ c.loop-i.invariant
