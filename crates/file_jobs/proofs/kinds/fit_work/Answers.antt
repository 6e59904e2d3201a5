-- `file_jobs::kinds::fit_work` meets its contract: each kind is the call on its own fields. Assumes nothing.
use borrow.Author.Tests.{eq-eqb, ne_eqb}
use mathlib.Core.Path.{ap}
use Rattle.file_jobs.specs.declared.results.Worked.TheVariants as W
use Rattle.file_jobs.specs.Worked.{fit_whole}
use Rattle.file_jobs.proofs.kinds.fit_work.Goals as goal

pub returns-then-j-eq8 : goal.returns-then-j-eq8
unfolding fit_whole
returns-then-j-eq8 c = rw (eq-eqb _ 8 c.if-j-eq8.true) (ap W.Fit c.fit_caplet_on.ensures.answer)

pub returns-then-j-eq9 : goal.returns-then-j-eq9
unfolding fit_whole
returns-then-j-eq9 c = rw (ne_eqb _ 8 c.if-j-eq8.false, eq-eqb _ 9 c.if-j-eq9.true) (ap W.Fit c.fit_caplet_on-then-j-eq9.ensures.answer)

pub returns-then-j-eq10 : goal.returns-then-j-eq10
unfolding fit_whole
returns-then-j-eq10 c = rw (ne_eqb _ 8 c.if-j-eq8.false, ne_eqb _ 9 c.if-j-eq9.false, eq-eqb _ 10 c.if-j-eq10.true) (ap W.Fit c.fit_swaption_on.ensures.answer)

pub returns : goal.returns
unfolding fit_whole
returns c = rw (ne_eqb _ 8 c.if-j-eq8.false, ne_eqb _ 9 c.if-j-eq9.false, ne_eqb _ 10 c.if-j-eq10.false) (ap W.Fit c.fit_swaption_on-2.ensures.answer)
