-- `math_exponential::series_two` meets its contract: of each series, what is left, from p or q on, is the whole, as in `series`. Assumes nothing.
use Rattle.std.proofs.Common.{◌-◌, sym, ap, ◌∙◌}
use Rattle.math_exponential.specs.Exp.{series_of}
use Rattle.math_exponential.proofs.Turns.{series_turn, series_end}
use Rattle.math_exponential.proofs.exponential.series_two.Goals as goal

pub loop-k-preserved : goal.loop-k-preserved
loop-k-preserved c =
    let h = c.loop-k-test.true in (
      ap (series_of c.args.x 1 (c.loop-k.k - 1)) c.turn-p.ensures ∙ series_turn _ _ _ _ h ∙ c.loop-k.invariant.0,
      ap (series_of c.args.y 1 (c.loop-k.k - 1)) c.turn-q.ensures ∙ series_turn _ _ _ _ h ∙ c.loop-k.invariant.1,
    )

pub returns : goal.returns
returns c =
    let inv = c.loop-k.invariant in
    let h = c.loop-k-test.false in
    (sym (series_end _ _ _ _ h) ∙ inv.0, sym (series_end _ _ _ _ h) ∙ inv.1)
