-- `file_serving::serve::serve_file` meets its contract: the one line of a broken file is sent, or the header and then the jobs. Assumes nothing.
use mathlib.Core.Path.{sym, ◌∙◌, ap}
use mathlib.Core.Logic.{inl, inr}
use native.Mathlib.Omega.{arith}
use lib.ListN.{length}
use Rattle.file_output.specs.Pieces.{refused_is}
use Rattle.file_serving.proofs.Handing.{only_output, failed_output, sent_output}
use Rattle.file_serving.proofs.Sending.{refusal_due, header_due, same_file, due_of, next_due}
use Rattle.file_serving.proofs.serve.serve_file.Goals as goal

pub send-requires : goal.send-requires
send-requires g c =
    let a = c.args in
    let e = sym c.lay_out-laid.ensures ∙ c.in-None.is in
    let j = refusal_due a.file.now _ a.due.now _ _ c.requires.1 e c.first_line-n.ensures in
    due_of a.file.now a.sent a.due.now _ c.requires.0 j.0 j.1

pub send-first-requires : goal.send-first-requires
send-first-requires g c =
    let a = c.args in
    let e = sym c.lay_out-laid.ensures ∙ c.in-Some.is in
    let j = header_due a.file.now _ a.due.now _ _ c.requires.1 _ e c.first_line-n-in-Some.ensures in
    due_of a.file.now a.sent a.due.now _ c.requires.0 j.0 j.1

pub returns-then-failed : goal.returns-then-failed
returns-then-failed g c =
    let a = c.args in
    let e = sym c.lay_out-laid.ensures ∙ c.in-Some.is in
    let j = header_due a.file.now _ a.due.now _ _ c.requires.1 _ e c.first_line-n-in-Some.ensures in
    let first = c.send-first in
    let stopped = sym c.failed.ensures ∙ c.if-failed.true in
    record {
      done = (same_file a.sent first.result first.ensures.next.0 ∙ c.requires.0.0, inl stopped);
      handed = failed_output a.file.now a.due.now _ c.requires.1 j.0 j.1 _ _ _ stopped first.ensures.handed;
    }

pub serve_jobs-requires : goal.serve_jobs-requires
serve_jobs-requires g c =
    let a = c.args in
    let e = sym c.lay_out-laid.ensures ∙ c.in-Some.is in
    let sent = c.send-first.ensures.next in
    (e, next_due a.file.now a.sent _ a.due.now _ c.requires.0 sent (sym c.failed.ensures ∙ c.if-failed.false), omega (arith, sent.1, sent.2, c.requires.0.2, c.requires.1))

pub returns-in-None : goal.returns-in-None
returns-in-None g c =
    let a = c.args in
    let e = sym c.lay_out-laid.ensures ∙ c.in-None.is in
    let j = refusal_due a.file.now _ a.due.now _ _ c.requires.1 e c.first_line-n.ensures in
    let sent = c.send in
    let one = ap length (refused_is a.file.now e) in
    record {
      done = (same_file a.sent sent.result sent.ensures.next.0 ∙ c.requires.0.0, inr (omega (arith, sent.ensures.next.1, c.requires.0.2, c.requires.1, one)));
      handed = only_output a.file.now a.due.now _ c.requires.1 j.0 j.1 (omega (arith, one)) _ _ _ sent.ensures.handed;
    }

pub returns-else-failed : goal.returns-else-failed
returns-else-failed g c =
    let a = c.args in
    let e = sym c.lay_out-laid.ensures ∙ c.in-Some.is in
    let j = header_due a.file.now _ a.due.now _ _ c.requires.1 _ e c.first_line-n-in-Some.ensures in
    record {
      done = c.serve_jobs.ensures.done;
      handed = sent_output a.file.now a.due.now _ c.requires.1 j.0 j.1 _ _ _ _ _ (sym c.failed.ensures ∙ c.if-failed.false) c.send-first.ensures.handed c.serve_jobs.ensures.handed;
    }
