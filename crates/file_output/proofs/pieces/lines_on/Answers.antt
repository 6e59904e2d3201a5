-- `file_output::pieces::lines_on` meets its contract: the lists that it hands on are the file's. Assumes nothing.
use native.Mathlib.Omega.{arith}
use Rattle.file_layout.proofs.Kept.{kept}
use Rattle.file_output.proofs.Lists.{lists_are}
use Rattle.file_output.proofs.pieces.lines_on.Goals as goal

pub alpha-alpha-requires : goal.alpha-alpha-requires
alpha-alpha-requires c = (kept c.args.file.now c.args.l c.requires.file_value.0).model

pub list-pillars-requires : goal.list-pillars-requires
list-pillars-requires c = (c.requires.file_value.0, c.requires.file_value.1)

pub list-sigmas-requires : goal.list-sigmas-requires
list-sigmas-requires c = (c.requires.file_value.0, c.requires.file_value.1)

pub list-times-requires : goal.list-times-requires
list-times-requires c = (c.requires.file_value.0, c.requires.file_value.1)

pub list-factors-requires : goal.list-factors-requires
list-factors-requires c = (c.requires.file_value.0, c.requires.file_value.1)

pub list-payments-requires : goal.list-payments-requires
list-payments-requires c = (c.requires.file_value.0, c.requires.file_value.1)

pub list-accruals-requires : goal.list-accruals-requires
list-accruals-requires c = (c.requires.file_value.0, c.requires.file_value.1)

pub list-owns-requires : goal.list-owns-requires
list-owns-requires c = (c.requires.file_value.0, c.requires.file_value.1)

pub list-grid-requires : goal.list-grid-requires
list-grid-requires c = (c.requires.file_value.0, c.requires.file_value.1)

pub list-draws-requires : goal.list-draws-requires
list-draws-requires c = (c.requires.file_value.0, c.requires.file_value.1)

pub job_lines-requires : goal.job_lines-requires
job_lines-requires c =
    let read = lists_are c.args.file.now c.args.l _ _ _ _ _ _ _ _ _ _ c.alpha-alpha.ensures c.list-pillars.ensures c.list-sigmas.ensures c.list-times.ensures c.list-factors.ensures c.list-payments.ensures c.list-accruals.ensures c.list-owns.ensures c.list-grid.ensures c.list-draws.ensures in
    record {
      file_value = (c.requires.file_value.0, c.requires.file_value.2, c.requires.file_value.3);
      curve_value = rw (c.list-times.ensures, c.list-factors.ensures) c.requires.curve_value;
      jobs_value = read;
    }
