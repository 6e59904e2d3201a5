-- `all` meets its contract: each number passes, or one does not.
use Rattle.std.proofs.Common.{sym, ◌∙◌}
use Rattle.refusals.proofs.Walks.{all_turn, all_stop, all_end}
use Rattle.refusals.proofs.checks.all.Goals as goal

pub loop-x-preserved : goal.loop-x-preserved
loop-x-preserved c = sym (all_turn _ _ _ c.loop-x-test.true (sym c.passes.ensures ∙ c.if-not-passes.false)) ∙ c.loop-x.invariant

pub returns-then-not-passes : goal.returns-then-not-passes
returns-then-not-passes c = sym (all_stop _ _ _ c.loop-x-test.true (sym c.passes.ensures ∙ c.if-not-passes.true)) ∙ c.loop-x.invariant

pub returns : goal.returns
returns c = sym (all_end _ _ _ c.loop-x-test.false) ∙ c.loop-x.invariant
