-- `calstwid_exports::file::calstwid_piece` meets its contract: a piece that fills the front of the output, or an output that is too short and stays as it was. Assumes nothing.
use Rattle.calstwid_exports.proofs.Stored.{short, stored}
use Rattle.calstwid_exports.proofs.file.calstwid_piece.Goals as goal

pub returns-then-is_short : goal.returns-then-is_short
returns-then-is_short c = let s = short c.args.file.now c.args.k c.args.out.now _ c.if-is_short.true c.count_report.ensures in record { answer = s.0; output = s.1 }

pub returns : goal.returns
returns c = let s = stored c.args.file.now c.args.k c.args.out.now _ _ _ c.if-is_short.false c.piece-n.ensures c.count_report-2.ensures in record { answer = s.0; output = s.1 }
