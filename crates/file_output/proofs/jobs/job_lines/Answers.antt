-- `file_output::jobs::job_lines` meets its contract: job k of the file is a path, or is told in one line. Assumes nothing.
use mathlib.Core.Path.{◌∙◌, ap}
use Prim.Native.Nat.{◌+◌, ◌*◌}
use native.Mathlib.Omega.{arith}
use Rattle.file_layout.specs.Request.{Request, request_of, job_at, jobs_of}
use Rattle.file_layout.proofs.Kept.{kept}
use Rattle.file_jobs.specs.Results.{request_of_lists}
use Rattle.file_output.proofs.Written.{path_job, published_job, option_job, worked_job, option_lists, work_lists, grid_short}
use Rattle.file_output.proofs.jobs.job_lines.Goals as goal

pub nth_job-j-requires : goal.nth_job-j-requires
nth_job-j-requires c = record {
  jobs_in_bounds = (kept c.args.file.now c.args.l c.requires.file_value.0).jobs.inside;
  i_bound = c.requires.file_value.1;
}

pub path_lines-requires : goal.path_lines-requires
path_lines-requires c =
    (c.requires.curve_value, grid_short c.args.file.now c.args.l c.requires.file_value.0 c.args.grid.now (ap (λ (q : Request). q.grid_times) c.requires.jobs_value), c.requires.file_value.2)

pub returns-then-j-eq12 : goal.returns-then-j-eq12
returns-then-j-eq12 c =
    let a = c.args in
    let file = a.file.now in
    path_job (request_of_lists a.alpha a.pillars.now a.sigmas.now a.times.now a.factors.now a.payments.now a.accruals.now a.owns.now a.grid.now a.draws.now (jobs_of file a.l.jobs)) (request_of file a.l) c.nth_job-j.result (job_at file (a.l.jobs.offset + 40 * a.k)) a.k _ _ _ c.requires.jobs_value c.nth_job-j.ensures c.if-j-eq12.true c.path_lines.ensures

pub path_lines-requires-then-j-eq13 : goal.path_lines-requires-then-j-eq13
path_lines-requires-then-j-eq13 c =
    (c.requires.curve_value, grid_short c.args.file.now c.args.l c.requires.file_value.0 c.args.grid.now (ap (λ (q : Request). q.grid_times) c.requires.jobs_value), c.requires.file_value.2)

pub returns-then-j-eq13 : goal.returns-then-j-eq13
returns-then-j-eq13 c =
    let a = c.args in
    let file = a.file.now in
    published_job (request_of_lists a.alpha a.pillars.now a.sigmas.now a.times.now a.factors.now a.payments.now a.accruals.now a.owns.now a.grid.now a.draws.now (jobs_of file a.l.jobs)) (request_of file a.l) c.nth_job-j.result (job_at file (a.l.jobs.offset + 40 * a.k)) a.k _ _ _ c.requires.jobs_value c.nth_job-j.ensures c.if-j-eq13.true c.path_lines-then-j-eq13.ensures

pub result_line-requires : goal.result_line-requires
result_line-requires c = omega (arith, c.requires.file_value.2)

pub returns-then-j-lt5 : goal.returns-then-j-lt5
returns-then-j-lt5 c =
    let a = c.args in
    let file = a.file.now in
    let jobs = jobs_of file a.l.jobs in
    let j = c.nth_job-j.result in
    option_job (request_of_lists a.alpha a.pillars.now a.sigmas.now a.times.now a.factors.now a.payments.now a.accruals.now a.owns.now a.grid.now a.draws.now jobs) (request_of file a.l) j (job_at file (a.l.jobs.offset + 40 * a.k)) a.k _ _ _ c.requires.jobs_value c.nth_job-j.ensures _ c.if-j-lt5.true (c.option_result-told.ensures ∙ option_lists a.alpha a.pillars.now a.sigmas.now a.times.now a.factors.now a.payments.now a.accruals.now a.owns.now a.grid.now a.draws.now jobs j) c.result_line.ensures

pub worked_line-requires : goal.worked_line-requires
worked_line-requires c = omega (arith, c.requires.file_value.2)

pub returns : goal.returns
returns c =
    let a = c.args in
    let file = a.file.now in
    let jobs = jobs_of file a.l.jobs in
    let j = c.nth_job-j.result in
    worked_job (request_of_lists a.alpha a.pillars.now a.sigmas.now a.times.now a.factors.now a.payments.now a.accruals.now a.owns.now a.grid.now a.draws.now jobs) (request_of file a.l) j (job_at file (a.l.jobs.offset + 40 * a.k)) a.k _ _ _ c.requires.jobs_value c.nth_job-j.ensures _ c.if-j-eq12.false c.if-j-eq13.false c.if-j-lt5.false (c.work-worked.ensures ∙ work_lists a.alpha a.pillars.now a.sigmas.now a.times.now a.factors.now a.payments.now a.accruals.now a.owns.now a.grid.now a.draws.now jobs j) c.worked_line.ensures
