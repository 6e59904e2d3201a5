-- `first_of` meets its contract: the rules are asked one after the other, and that comes to the first that applies.
use Rattle.std.proofs.Common.{sym, ◌∙◌}
use Rattle.refusals.specs.Order.{in_turn_lem}
use Rattle.refusals.proofs.Walks.{rule_turn, rules_end}
use Rattle.refusals.proofs.refusals.first_of.Goals as goal

pub loop-rule-init : goal.loop-rule-init
loop-rule-init c = in_turn_lem _

pub loop-rule-preserved : goal.loop-rule-preserved
loop-rule-preserved c = rule_turn _ _ _ c.loop-rule-test.true c.and_rule-answer.ensures ∙ c.loop-rule.invariant

pub returns : goal.returns
returns c = sym (rules_end _ _ _ c.loop-rule-test.false) ∙ c.loop-rule.invariant
