-- `basket_entries::rules::times_wrong` meets its contract. The loop's invariant: the entries that are left break rule 5 where some entry does. Assumes nothing.
use mathlib.Core.Path.{◌∙◌}
use Rattle.std.proofs.lemmas.Slice.Zip.{either_empty_from_Zip}
use Rattle.basket_entries.proofs.Walks.{times_turn, times_stop, times_end}
use Rattle.basket_entries.proofs.rules.times_wrong.Goals as goal

pub returns-then-start-end : goal.returns-then-start-end
returns-then-start-end c = let s = c.in-Some.ensures.steps in times_stop s.0 s.1 c.if-start-end.true ∙ c.loop-start.invariant

pub loop-start-preserved : goal.loop-start-preserved
loop-start-preserved c = let s = c.in-Some.ensures.steps in times_turn s.0 s.1 c.if-start-end.false ∙ c.loop-start.invariant

pub returns : goal.returns
returns c = times_end _ _ (either_empty_from_Zip c.loop-start.start-iterator c.next.new.self _ c.in-None.is c.next.ensures.steps) ∙ c.loop-start.invariant
