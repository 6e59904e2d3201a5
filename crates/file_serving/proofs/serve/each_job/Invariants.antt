-- `file_serving::serve::each_job` meets its contract: job by job, each with all that its lines ask, until none is left or a write fails. Assumes nothing.
use Rattle.std.proofs.Common.{◌≡◌, ◌+◌, length}
use Rattle.file_output.specs.Pieces.{pieces_of}
use Rattle.file_serving.specs.Sending.{Due}
use Rattle.file_serving.proofs.Handing.{Behind}
use Rattle.file_serving.proofs.serve.each_job.Given as goal

abbrev pub invariant-loop-k : goal.invariant-loop-k
invariant-loop-k g l = record {
  room : length l.out ≡ 131072;
  due : Due l.file l.last l.due;
  number : l.due ≡ l.k + 1;
  handed : Behind (g.W.Write.contents l.initial.output) (g.W.Write.contents l.output) (pieces_of l.file) (l.k + 1);
}
