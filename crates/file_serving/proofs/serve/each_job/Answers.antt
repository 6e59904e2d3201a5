-- `file_serving::serve::each_job` meets its contract: job by job, each with all that its lines ask, until none is left or a write fails. Assumes nothing.
use borrow.Author.Rules.{rules}
use mathlib.Core.Path.{refl, sym, ◌∙◌}
use mathlib.Core.Logic.{inl, inr}
use Prim.Native.Nat.{◌+◌}
use native.Mathlib.Omega.{arith}
use Rattle.file_layout.proofs.Kept.{kept}
use Rattle.file_output.specs.Pieces.{pieces_of, count_is}
use Rattle.file_serving.proofs.Handing.{begun, handed_next, handed_stopped, handed_all}
use Rattle.file_serving.proofs.Sending.{job_due, all_sent, same_file, due_of, next_due}
use Rattle.file_serving.proofs.serve.each_job.Goals as goal

pub overflow_cast-n_jobs : goal.overflow_cast-n_jobs
overflow_cast-n_jobs g c = omega (arith, (kept c.args.file.now c.args.l c.requires.0).jobs.few)

pub loop-k-init : goal.loop-k-init
loop-k-init g c = record { room = search rules; due = c.requires.2; number = c.requires.3; handed = begun _ _ }

pub slice_bounds-lines_on-end : goal.slice_bounds-lines_on-end
slice_bounds-lines_on-end g c = let h = c.loop-k.invariant.room in search (rules, h)

pub lines_on-n-requires : goal.lines_on-n-requires
lines_on-n-requires g c = record {
  file_value = (c.requires.0, c.requires.1, omega (arith, c.loop-k-test.true), omega (arith, c.loop-k.invariant.room));
  curve_value = c.file_curve_faults-curve.ensures;
}

pub send-last-requires : goal.send-last-requires
send-last-requires g c =
    let a = c.args in
    let l = c.loop-k in
    let j = job_due a.file.now a.l c.requires.0 _ l.k l.due _ _ l.invariant.number c.loop-k-test.true c.lines_on-n.ensures in
    due_of a.file.now l.last l.due _ l.invariant.due j.0 j.1

pub returns-then-failed : goal.returns-then-failed
returns-then-failed g c =
    let a = c.args in
    let l = c.loop-k in
    let j = job_due a.file.now a.l c.requires.0 _ l.k (l.k + 1) _ _ refl c.loop-k-test.true c.lines_on-n.ensures in
    let sent = c.send-last in
    let stopped = sym c.failed.ensures ∙ c.if-failed.true in
    record {
      done = (same_file l.last sent.result sent.ensures.next.0 ∙ l.invariant.due.0, inl stopped);
      handed = handed_stopped _ _ _ (pieces_of a.file.now) (l.k + 1) _ _ l.invariant.handed j.0 j.1 sent.ensures.handed stopped;
    }

pub loop-k-preserved : goal.loop-k-preserved
loop-k-preserved g c =
    let a = c.args in
    let l = c.loop-k in
    let j = job_due a.file.now a.l c.requires.0 _ l.k (l.k + 1) _ _ refl c.loop-k-test.true c.lines_on-n.ensures in
    let e = c.send-last.ensures.next in
    let goes = sym c.failed.ensures ∙ c.if-failed.false in
    record {
      room = c.lines_on-n.auto.out ∙ l.invariant.room;
      due = next_due a.file.now l.last _ l.due _ l.invariant.due e goes;
      number = omega (arith, e.1, e.2, l.invariant.due.2, l.invariant.number);
      handed = handed_next _ _ _ (pieces_of a.file.now) (l.k + 1) _ _ l.invariant.handed j.0 j.1 c.send-last.ensures.handed goes;
    }

pub returns : goal.returns
returns g c =
    let a = c.args in
    let l = c.loop-k in
    record {
      done = (l.invariant.due.0, inr (all_sent a.file.now a.l c.requires.0 l.k _ (l.invariant.due.2 ∙ l.invariant.number) (omega (arith, l.auto.k-end, c.loop-k-test.false))));
      handed = handed_all _ _ (pieces_of a.file.now) (l.k + 1) _ l.invariant.handed (omega (arith, count_is a.file.now a.l c.requires.0, c.loop-k-test.false)) l.invariant.due.3;
    }
