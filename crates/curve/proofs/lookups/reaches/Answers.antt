-- `reaches` meets its contract: in rising times the last of n is the greatest.
use mathlib.Core.Path.{sym, ◌∙◌}
use Rattle.curve.proofs.Halves.{front_none, front_last}
use borrow.Author.Rules.{rules}
use Rattle.curve.proofs.lookups.reaches.Goals as goal

pub returns-then-n-eq0 : goal.returns-then-n-eq0
returns-then-n-eq0 c =
    let a = c.args in
    λ e. (search rules, rw c.if-n-eq0.true (front_none a.strictly a.times.now a.t))

pub returns-then-times-n : goal.returns-then-times-n
returns-then-times-n c = λ e. search rules

pub returns : goal.returns
returns c =
    λ e. (search rules, front_last c.args.strictly c.args.times.now c.args.t c.args.n c.requires c.if-n-eq0.false c.if-times-n.false (sym c.follows.ensures ∙ e))
