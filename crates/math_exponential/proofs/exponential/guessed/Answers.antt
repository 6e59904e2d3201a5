-- `math_exponential::guessed` meets its contract: a guess that is the sum is a turn of the series, as in `series`. Assumes nothing.
use Rattle.std.proofs.Common.{◌-◌, sym, ap, ◌∙◌}
use Rattle.math_exponential.specs.Exp.{series_of}
use Rattle.math_exponential.proofs.Turns.{series_turn, series_end}
use Rattle.math_exponential.proofs.exponential.guessed.Goals as goal

pub loop-k-preserved : goal.loop-k-preserved
loop-k-preserved c =
    ap (series_of c.args.x 1 (c.loop-k.k - 1)) (c.surely_same.ensures c.if-not-surely_same.false ∙ c.turn.ensures) ∙ series_turn _ _ _ _ c.loop-k-test.true ∙ c.loop-k.invariant

pub returns-then-not-surely_same : goal.returns-then-not-surely_same
returns-then-not-surely_same c = c.series.ensures

pub returns : goal.returns
returns c = sym (series_end _ _ _ _ c.loop-k-test.false) ∙ c.loop-k.invariant
