-- `file_output::jobs::worked_line` meets its contract: the line of what is told. Assumes nothing.
use Rattle.file_output.proofs.Written.{same_told}
use Rattle.file_output.proofs.jobs.worked_line.Goals as goal

pub returns : goal.returns
returns c =
    same_told c.args.k c.args.kind _ _ _ _ _ c.into.ensures c.result_line.ensures
