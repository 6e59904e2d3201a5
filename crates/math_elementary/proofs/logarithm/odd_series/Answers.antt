-- `math_elementary::odd_series` meets its contract: what is left of the series, from t on, is the whole series. Assumes nothing.
use mathlib.Core.Path.{sym, ◌∙◌}
use Rattle.math_elementary.proofs.OddTurns.{odd_turn, odd_end}
use Rattle.math_elementary.proofs.logarithm.odd_series.Goals as goal

pub loop-k-preserved : goal.loop-k-preserved
loop-k-preserved c = odd_turn _ _ _ c.loop-k-test.true ∙ c.loop-k.invariant

pub returns : goal.returns
returns c = sym (odd_end _ _ _ c.loop-k-test.false) ∙ c.loop-k.invariant
