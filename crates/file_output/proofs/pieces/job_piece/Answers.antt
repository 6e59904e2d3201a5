-- `file_output::pieces::job_piece` meets its contract: the lines of the job, or nothing behind the last. Assumes nothing.
use native.Mathlib.Omega.{arith}
use Rattle.file_output.proofs.Front.{none, job_piece_is, behind_jobs}
use Rattle.file_output.proofs.pieces.job_piece.Goals as goal

pub returns-then-n_jobs-k : goal.returns-then-n_jobs-k
returns-then-n_jobs-k c = none _ _ (behind_jobs c.args.file.now c.args.l c.requires.0 c.args.k (omega (arith, c.if-n_jobs-k.true)))

pub returns : goal.returns
returns c =
    job_piece_is c.args.file.now c.args.l c.requires.0 _ c.args.k _ _ (omega (arith, c.if-n_jobs-k.false)) c.lines_on.ensures
