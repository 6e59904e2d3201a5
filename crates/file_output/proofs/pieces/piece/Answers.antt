-- `file_output::pieces::piece` meets its contract: the first line, the lines of a job, or nothing behind the last. Assumes nothing.
use mathlib.Core.Path.{sym, ◌∙◌}
use native.Mathlib.Omega.{arith}
use Rattle.file_output.proofs.Front.{none, refusal_piece, behind_refusal, header_piece, by_number}
use Rattle.file_output.proofs.pieces.piece.Goals as goal

pub returns-then-k-eq0 : goal.returns-then-k-eq0
returns-then-k-eq0 c =
    refusal_piece c.args.file.now (sym c.lay_out-laid.ensures ∙ c.in-None.is) _ c.args.k _ _ c.if-k-eq0.true c.first_line.ensures

pub returns-then-k-eq0-2 : goal.returns-then-k-eq0-2
returns-then-k-eq0-2 c =
    header_piece c.args.file.now _ (sym c.lay_out-laid.ensures ∙ c.in-Some.is) _ c.args.k _ _ c.if-k-eq0-2.true c.first_line-then-k-eq0-2.ensures

pub job_piece-requires : goal.job_piece-requires
job_piece-requires c =
    (sym c.lay_out-laid.ensures ∙ c.in-Some.is, c.requires)

pub returns-else-k-eq0 : goal.returns-else-k-eq0
returns-else-k-eq0 c =
    none _ _ (behind_refusal c.args.file.now (sym c.lay_out-laid.ensures ∙ c.in-None.is) c.args.k c.if-k-eq0.false)

pub returns-else-k-eq0-2 : goal.returns-else-k-eq0-2
returns-else-k-eq0-2 c =
    by_number c.args.file.now _ (sym c.lay_out-laid.ensures ∙ c.in-Some.is) _ c.args.k _ _ _ (omega (arith, c.if-k-eq0-2.false)) c.job_piece.ensures
