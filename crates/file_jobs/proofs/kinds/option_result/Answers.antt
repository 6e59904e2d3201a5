-- `file_jobs::kinds::option_result` meets its contract: each kind is told of the call on its own fields. Assumes nothing.
use borrow.Author.Tests.{eq-eqb, ne_eqb}
use mathlib.Core.Path.{◌∙◌, ap}
use Rattle.file_jobs.specs.Results.{result_of_price, option_result}
use Rattle.file_jobs.proofs.kinds.option_result.Goals as goal

pub returns-then-j-eq1 : goal.returns-then-j-eq1
unfolding option_result
returns-then-j-eq1 c =
    rw (eq-eqb _ 1 c.if-j-eq1.true) (c.from.ensures ∙ ap result_of_price c.optionlet_on.ensures.outcome)

pub returns-then-j-eq2 : goal.returns-then-j-eq2
unfolding option_result
returns-then-j-eq2 c =
    rw (ne_eqb _ 1 c.if-j-eq1.false, eq-eqb _ 2 c.if-j-eq2.true) (c.from-then-j-eq2.ensures ∙ ap result_of_price c.optionlet_on-then-j-eq2.ensures.outcome)

pub returns-then-j-eq3 : goal.returns-then-j-eq3
unfolding option_result
returns-then-j-eq3 c =
    rw (ne_eqb _ 1 c.if-j-eq1.false, ne_eqb _ 2 c.if-j-eq2.false, eq-eqb _ 3 c.if-j-eq3.true) (c.from-then-j-eq3.ensures ∙ ap result_of_price c.bond_option_on.ensures.outcome)

pub returns : goal.returns
unfolding option_result
returns c =
    rw (ne_eqb _ 1 c.if-j-eq1.false, ne_eqb _ 2 c.if-j-eq2.false, ne_eqb _ 3 c.if-j-eq3.false) (c.from-2.ensures ∙ ap result_of_price c.bond_option_on-2.ensures.outcome)
