-- `pricer_formulas::newton_sums` meets its contract. The loop's invariant: the terms left, added to the two sums so far, give the whole sums. Assumes nothing.
use mathlib.Core.Path.{refl, ◌∙◌}
use Rattle.pricer_formulas.specs.Newton.{sums_of}
use Rattle.pricer_formulas.proofs.Walks.{sums_turn, sums_end}
use Rattle.pricer_formulas.proofs.newton.newton_sums.Goals as goal

pub loop-i-init : goal.loop-i-init
unfolding sums_of
loop-i-init c = refl

pub loop-i-preserved : goal.loop-i-preserved
loop-i-preserved c =
    sums_turn _ _ _ _ _ _ _ c.loop-i-test.true c.requires.0 c.requires.1 c.sums_after-total.ensures ∙ c.loop-i.invariant

pub returns : goal.returns
returns c = sums_end _ _ _ _ _ _ c.loop-i-test.false ∙ c.loop-i.invariant
