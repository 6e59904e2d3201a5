-- `fit_solver::bisect::halvings` meets its contract. The loop's invariant: the halvings left, from the ends so far, give what all 200 give from the start. Assumes nothing.
use Rattle.std.specs.Prelude.{Ok}
use mathlib.Core.Path.{sym, ap, ◌∙◌}
use Rattle.refusals.proofs.Outcomes.{handed_on}
use Rattle.fit_solver.proofs.Turning.{turn_unmoved, count_refused, count_converged, count_moved, count_done}
use Rattle.fit_solver.proofs.bisect.halvings.Goals as goal

pub returns-in_err-sigma : goal.returns-in_err-sigma
returns-in_err-sigma c = handed_on c.from_residual.ensures.1 ∙ count_refused _ _ _ c.loop-made-test.true (sym c.in_err-sigma.ensures) ∙ c.loop-made.invariant

pub returns-in-Converged : goal.returns-in-Converged
returns-in-Converged c = count_converged _ _ _ c.loop-made-test.true (sym c.in_ok-sigma.ensures ∙ ap Ok c.in-Converged.is) ∙ c.loop-made.invariant

pub returns-then-unmoved : goal.returns-then-unmoved
returns-then-unmoved c =
    c.unconverged.ensures ∙ sym (turn_unmoved _ _ _ _ (sym c.in_ok-sigma.ensures ∙ ap Ok c.in-Moved.is) (c.unmoved.ensures c.if-unmoved.true)) ∙ c.loop-made.invariant

pub loop-made-preserved : goal.loop-made-preserved
loop-made-preserved c = count_moved _ _ _ c.loop-made-test.true (sym c.in_ok-sigma.ensures ∙ ap Ok c.in-Moved.is) ∙ c.loop-made.invariant

pub returns : goal.returns
returns c = c.unconverged-2.ensures ∙ count_done _ _ _ c.loop-made-test.false ∙ c.loop-made.invariant
