-- `draws::xorshift::twelve_steps` meets its contract: what is added so far and what the steps that are left will add come to the whole sum. Assumes nothing.
use Rattle.std.proofs.Common.{rules, arith, ◌-◌, ◌+◌}
use Rattle.draws.proofs.Sums.{start, room, turn, end}
use Rattle.draws.proofs.xorshift.twelve_steps.Goals as goal

pub loop-init : goal.loop-init
loop-init c = start _

pub overflow_add-sum : goal.overflow_add-sum
overflow_add-sum c =
    let l = c.loop in
    record { fits = room c.args.seed l.sum l.state (search rules) (12 - l.counter) c.step-state.result l.invariant (search rules) c.step-state.ensures }

pub loop-preserved : goal.loop-preserved
loop-preserved c =
    let l = c.loop in
    turn c.args.seed l.sum l.state (12 - l.counter) (12 - (l.counter + 1)) c.step-state.result l.invariant (omega (arith, c.loop-test.true)) c.step-state.ensures

pub returns : goal.returns
returns c =
    let l = c.loop in
    let e = end c.args.seed l.sum l.state (search rules) (12 - l.counter) l.invariant (search rules) in
    record { sum = e.0; state = e.1; below = e.2 }
