-- `pricer_formulas::components` meets its contract. The loop's invariant: the components left, added to the value so far, give the whole value. Assumes nothing.
use mathlib.Core.Path.{refl, ◌∙◌}
use Rattle.pricer_formulas.specs.Components.{components_of}
use Rattle.pricer_formulas.proofs.Walks.{components_turn, components_end}
use Rattle.pricer_formulas.proofs.value.components.Goals as goal

pub loop-i-init : goal.loop-i-init
unfolding components_of
loop-i-init c = refl

pub loop-i-preserved : goal.loop-i-preserved
loop-i-preserved c =
    let s = c.requires in
    components_turn _ _ _ _ _ _ _ _ _ _ _ _ _ _ c.loop-i-test.true s.0 s.1 s.2 s.3 c.component-plain.ensures c.discounted-due.ensures ∙ c.loop-i.invariant

pub returns : goal.returns
returns c = rw (← c.all-own.ensures) (components_end _ _ _ _ _ _ _ _ _ _ _ _ c.loop-i-test.false ∙ c.loop-i.invariant)
