-- `test_details::serve::each_job` is safe: each job has all that its lines ask. Assumes nothing.
use Rattle.std.proofs.Common.{arith}
use Rattle.file_layout.proofs.Kept.{kept}
use Rattle.file_output.proofs.Lists.{lists_are}
use Rattle.test_details.proofs.serve.each_job.Goals as goal

pub alpha-alpha-requires : goal.alpha-alpha-requires
alpha-alpha-requires g c = (kept c.args.file.now c.args.l c.requires.0).model

pub overflow_cast-n_jobs : goal.overflow_cast-n_jobs
overflow_cast-n_jobs g c = omega (arith, (kept c.args.file.now c.args.l c.requires.0).jobs.few)

pub one_job-requires-clause-jobs_value : goal.one_job-requires-clause-jobs_value
one_job-requires-clause-jobs_value g c = lists_are c.args.file.now c.args.l _ _ _ _ _ _ _ _ _ _ c.alpha-alpha.ensures c.list-pillars.ensures c.list-sigmas.ensures c.list-times.ensures c.list-factors.ensures c.list-payments.ensures c.list-accruals.ensures c.list-owns.ensures c.list-grid.ensures c.list-draws.ensures
