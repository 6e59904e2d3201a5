-- `math_exponential::series` meets its contract: what is left of the series, from p on, is the whole series. Assumes nothing.
use Rattle.std.proofs.Common.{◌-◌, sym, ap, ◌∙◌}
use Rattle.math_exponential.specs.Exp.{series_of}
use Rattle.math_exponential.proofs.Turns.{series_turn, series_end}
use Rattle.math_exponential.proofs.exponential.series.Goals as goal

pub loop-k-preserved : goal.loop-k-preserved
loop-k-preserved c = ap (series_of c.args.x c.args.last (c.loop-k.k - 1)) c.turn-p.ensures ∙ series_turn _ _ _ _ c.loop-k-test.true ∙ c.loop-k.invariant

pub returns : goal.returns
returns c = sym (series_end _ _ _ _ c.loop-k-test.false) ∙ c.loop-k.invariant
