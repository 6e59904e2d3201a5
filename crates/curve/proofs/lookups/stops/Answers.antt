-- `stops` meets its contract: in rising times the first from place n on is the least.
use mathlib.Core.Path.{sym, ◌∙◌}
use borrow.Author.Tests.{not-true}
use Rattle.curve.proofs.Halves.{back_none, back}
use Rattle.curve.proofs.lookups.stops.Goals as goal

pub returns-then-times-n : goal.returns-then-times-n
returns-then-times-n c =
    let a = c.args in
    λ e. back_none a.strictly a.times.now a.t a.n c.if-times-n.true

pub returns : goal.returns
returns c =
    λ e. back c.args.strictly c.args.times.now c.args.t c.args.n c.requires (sym c.follows.ensures ∙ not-true _ e)
