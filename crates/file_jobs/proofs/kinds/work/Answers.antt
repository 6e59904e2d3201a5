-- `file_jobs::kinds::work` meets its contract: swaptions below kind 8, else fits. Assumes nothing.
use borrow.Author.Tests.{lt-ltb, le-ltb}
use Rattle.file_jobs.specs.Worked.{fit_whole, work_of}
use Rattle.file_jobs.proofs.kinds.work.Goals as goal

pub returns-then-j-lt8 : goal.returns-then-j-lt8
unfolding work_of
returns-then-j-lt8 c = rw (lt-ltb _ 8 c.if-j-lt8.true) c.swaption_work.ensures

pub returns : goal.returns
unfolding work_of fit_whole
returns c = rw (le-ltb _ 8 c.if-j-lt8.false) c.fit_work.ensures
