-- `count_reached` meets its contract. The loop's invariant: the n times passed, with those of the rest up to t, are the times up to t.
use Rattle.std.proofs.Common.{rules, arith, ◌≡◌, ℕ, sym, ap, ◌∙◌, length, take}
use Rattle.curve.proofs.Walks.{front_turn, front_stop, front_end}
use Rattle.curve.proofs.lookups.count_reached.Goals as goal

pub loop-n-preserved : goal.loop-n-preserved
loop-n-preserved c = sym (front_turn _ _ _ c.loop-n-test.true c.if-not-time-t.false) ∙ c.loop-n.invariant

pub returns-then-not-time-t : goal.returns-then-not-time-t
returns-then-not-time-t c = (search rules, sym (front_stop _ _ _ c.loop-n-test.true c.if-not-time-t.true) ∙ c.loop-n.invariant)

pub returns : goal.returns
returns c =
    let ts = c.args.times.now in
    let k : c.loop-n.n ≡ length ts = omega (arith, c.loop-n.auto.n-end, c.loop-n-test.false) in
    (search rules, ap (λ (n : ℕ). take n ts) (sym k) ∙ sym (front_end _ _ _ c.loop-n-test.false) ∙ c.loop-n.invariant)
