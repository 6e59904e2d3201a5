-- `in_order` meets its contract: an empty list has no steps; each step passes, or one does not.
use Rattle.std.proofs.Common.{rules, ◌≡◌, length, sym, ◌∙◌}
use Rattle.refusals.proofs.Walks.{order_turn, order_stop, order_end, order_none, order_first}
use Rattle.refusals.proofs.checks.in_order.Goals as goal

pub returns-then-is_empty : goal.returns-then-is_empty
returns-then-is_empty c = let h : length c.args.xs.now ≡ 0 = search rules in sym (order_none _ _ h)

pub loop-i-init : goal.loop-i-init
loop-i-init c = order_first _ _ (λ h. let z : ⊥ = search rules in z)

pub loop-i-preserved : goal.loop-i-preserved
loop-i-preserved c = sym (order_turn _ _ _ _ c.loop-i-test.true (sym c.follows.ensures ∙ c.if-not-follows.false)) ∙ c.loop-i.invariant

pub returns-then-not-follows : goal.returns-then-not-follows
returns-then-not-follows c = sym (order_stop _ _ _ _ c.loop-i-test.true (sym c.follows.ensures ∙ c.if-not-follows.true)) ∙ c.loop-i.invariant

pub returns : goal.returns
returns c = sym (order_end _ _ _ _ c.loop-i-test.false) ∙ c.loop-i.invariant
