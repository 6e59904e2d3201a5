-- `file_serving::serve::serve_input` meets its contract: the file that is served is the one that was read. Assumes nothing.
use mathlib.Core.Path.{refl}
use Prim.Native.Nat.{ℕ}
use native.Mathlib.Omega.{arith}
use lib.ListN.{length-take}
use Rattle.file_serving.proofs.Sending.{read_is}
use Rattle.file_serving.proofs.serve.serve_input.Goals as goal

pub slice_bounds-bytes-end : goal.slice_bounds-bytes-end
slice_bounds-bytes-end g c = omega (arith, c.receive-sent.ensures.due.1, c.length-n.ensures)

pub slice_bounds-serve_file-end : goal.slice_bounds-serve_file-end
slice_bounds-serve_file-end g c = omega (arith, length-take {A = ℕ}, c.receive-sent.ensures.due.1, c.length-n.ensures)

pub serve_file-requires : goal.serve_file-requires
serve_file-requires g c =
    let read = c.receive-sent in
    ((read_is read.result c.length-n.result c.bytes-bytes.result c.length-n.ensures c.bytes-bytes.ensures, read.ensures.due.1, read.ensures.due.2, read.ensures.due.3), refl)

pub returns : goal.returns
returns g c =
    let read = c.receive-sent in
    let same = read_is read.result c.length-n.result c.bytes-bytes.result c.length-n.ensures c.bytes-bytes.ensures in
    let served = c.serve_file.ensures in
    record {
      done = rw served.done.0 (refl, served.done.1);
      read = rw (served.done.0, ← same) read.ensures.read;
      handed = rw served.done.0 served.handed;
    }
