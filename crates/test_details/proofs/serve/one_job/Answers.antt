-- `test_details::serve::one_job` is safe: job k is one of the file. Assumes nothing.
use Rattle.file_layout.proofs.Kept.{kept}
use Rattle.test_details.proofs.serve.one_job.Goals as goal

pub nth_job-j-requires-clause-jobs_in_bounds : goal.nth_job-j-requires-clause-jobs_in_bounds
nth_job-j-requires-clause-jobs_in_bounds g c = (kept c.args.file.now c.args.l c.requires.file_value.0).jobs.inside
