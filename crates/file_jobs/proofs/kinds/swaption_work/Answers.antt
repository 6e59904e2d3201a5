-- `file_jobs::kinds::swaption_work` meets its contract: each kind is the call on its own fields. Assumes nothing.
use borrow.Author.Tests.{eq-eqb, ne_eqb}
use mathlib.Core.Path.{ap}
use Rattle.file_jobs.specs.declared.results.Worked.TheVariants as W
use Rattle.file_jobs.specs.Worked.{swaption_whole}
use Rattle.file_jobs.proofs.kinds.swaption_work.Goals as goal

pub returns-then-j-eq5 : goal.returns-then-j-eq5
unfolding swaption_whole
returns-then-j-eq5 c = rw (eq-eqb _ 5 c.if-j-eq5.true) (ap W.Swaption c.swaption_price_on.ensures.answer)

pub returns-then-j-eq6 : goal.returns-then-j-eq6
unfolding swaption_whole
returns-then-j-eq6 c = rw (ne_eqb _ 5 c.if-j-eq5.false, eq-eqb _ 6 c.if-j-eq6.true) (ap W.Valuation c.swaption_value_on.ensures.answer)

pub returns : goal.returns
unfolding swaption_whole
returns c = rw (ne_eqb _ 5 c.if-j-eq5.false, ne_eqb _ 6 c.if-j-eq6.false) (ap W.Valuation c.swaption_value_on-2.ensures.answer)
