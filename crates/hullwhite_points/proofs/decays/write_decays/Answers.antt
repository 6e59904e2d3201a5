-- `hullwhite_points::decays::write_decays` meets its contract. The loop's invariant: the decays worked, and behind them those of the grid from place i on, are the decays of the whole grid. Assumes nothing.
use mathlib.Core.Path.{refl, sym, ◌∙◌}
use borrow.Author.Rules.{rules}
use lib.ListN.{length-set}
use Rattle.hullwhite_points.proofs.Walks.{decays_two, decays_last, decays_end}
use Rattle.hullwhite_points.proofs.decays.write_decays.Goals as goal

pub loop-i-init : goal.loop-i-init
loop-i-init c = (search rules, refl, refl)

pub loop-i-preserved : goal.loop-i-preserved
loop-i-preserved c =
    let l = c.loop-i in
    let a = c.args in
    (search rules, simp length-set l.invariant.1, sym (decays_two a.alpha l.before a.grid.now l.out l.i c.loop-i-test.true (search rules) _ _ c.two_decays-two.ensures.0 c.two_decays-two.ensures.1) ∙ l.invariant.2)

pub shape_of-out-then-i-grid : goal.shape_of-out-then-i-grid
shape_of-out-then-i-grid c =
    let l = c.loop-i in
    simp length-set l.invariant.1

pub returns-then-i-grid : goal.returns-then-i-grid
returns-then-i-grid c =
    let l = c.loop-i in
    let a = c.args in
    sym (decays_last a.alpha l.before a.grid.now l.out l.i (search rules) (search rules) _ c.decay.ensures) ∙ l.invariant.2

pub shape_of-out-else-i-grid : goal.shape_of-out-else-i-grid
shape_of-out-else-i-grid c = c.loop-i.invariant.1

pub returns-else-i-grid : goal.returns-else-i-grid
returns-else-i-grid c =
    let l = c.loop-i in
    let a = c.args in
    sym (decays_end a.alpha l.before a.grid.now l.out l.i c.if-i-grid.false (search rules)) ∙ l.invariant.2
