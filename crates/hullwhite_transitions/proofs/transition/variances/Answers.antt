-- `hullwhite_transitions::transition::variances` meets its contract: a turn works one variance, and at the end all are worked. Assumes nothing.
use mathlib.Core.Path.{sym, ◌∙◌}
use Rattle.hullwhite_transitions.proofs.Walks.{variances_turn, variances_end}
use Rattle.hullwhite_transitions.proofs.transition.variances.Goals as goal

pub loop-i-preserved : goal.loop-i-preserved
loop-i-preserved c =
    let l = c.loop-i in
    rw c.step_variance.ensures (sym (variances_turn _ _ _ _ _ _ _ l.auto.out c.loop-i-test.true) ∙ l.invariant)

pub returns : goal.returns
returns c =
    let l = c.loop-i in
    sym (variances_end _ _ _ _ _ _ _ l.auto.out c.loop-i-test.false) ∙ l.invariant
