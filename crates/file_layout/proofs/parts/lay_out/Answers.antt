-- `file_layout::parts::lay_out` meets its contract: each test is a condition of the definition. Assumes nothing.
use mathlib.Core.Path.{sym}
use Rattle.file_layout.proofs.Conditions.{ends}
use Rattle.file_layout.proofs.Keeping.{too_long, too_short, misplaced, missized, unknown, keeping}
use Rattle.file_layout.proofs.parts.lay_out.Goals as goal
use Rattle.file_layout.proofs.parts.lay_out.Goals.{else-placed-via-then-placed+then-sized+else-all_known, else-placed-via-then-placed+else-sized, else-placed-via-else-placed, then-file-gt65536-via-then-file-gt65536, then-file-gt65536-via-else-file-gt65536+then-file-lt48}

pub returns-then-file-gt65536 : goal.returns-then-file-gt65536
returns-then-file-gt65536 c =
    elim c.then-file-gt65536.branch [
      | then-file-gt65536-via-then-file-gt65536 w ↦ too_long _ w.if-file-gt65536.true
      | then-file-gt65536-via-else-file-gt65536+then-file-lt48 w ↦ too_short _ w.if-file-gt65536.false w.if-file-lt48.true
    ]

pub all_known-requires : goal.all_known-requires
all_known-requires c = (ends _ _ (sym c.if-placed.ensures)).last

pub returns-then-all_known : goal.returns-then-all_known
returns-then-all_known c = keeping _ _ c.if-file-gt65536.false c.if-file-lt48.false c.parts-l.ensures c.if-placed.ensures c.if-sized.ensures c.if-all_known.ensures

pub returns-else-placed : goal.returns-else-placed
returns-else-placed c =
    elim c.else-placed.branch [
      | else-placed-via-then-placed+then-sized+else-all_known w ↦ unknown _ _ c.if-file-gt65536.false c.if-file-lt48.false c.parts-l.ensures w.if-placed.ensures w.if-sized.ensures w.if-all_known.ensures
      | else-placed-via-then-placed+else-sized w ↦ missized _ _ c.if-file-gt65536.false c.if-file-lt48.false c.parts-l.ensures w.if-placed.ensures w.if-sized.ensures
      | else-placed-via-else-placed w ↦ misplaced _ _ c.if-file-gt65536.false c.if-file-lt48.false c.parts-l.ensures w.if-placed.ensures
    ]
