-- `file_output::pieces::file_curve_faults` meets its contract: the curve's lists are the file's. Assumes nothing.
use Rattle.file_output.proofs.pieces.file_curve_faults.Goals as goal

pub returns : goal.returns
returns c = rw (← c.list-times.ensures, ← c.list-factors.ensures) c.curve_faults.ensures
