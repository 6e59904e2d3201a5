-- The pieces that are sent: how many there are, and which one is due. Assumes nothing.
use mathlib.Core.Path.{◌≡◌, refl, sym, ◌∙◌, ap}
use mathlib.Core.Bool.{true, false, cond}
use mathlib.Core.List.{List}
use Prim.Native.Nat.{ℕ, suc, ◌+◌, ◌*◌, ◌/◌, ◌≤◌, ◌<◌}
use native.Mathlib.Omega.{arith}
use lib.ListN.{length, take}
use Rattle.std.specs.Prelude.{Option, Some, None}
use Rattle.file_layout.specs.declared.parts.Layout.{Layout}
use Rattle.file_layout.specs.Layout.{layout_of}
use Rattle.file_layout.specs.Request.{request_of, job_at}
use Rattle.file_layout.proofs.Kept.{kept}
use Rattle.file_fields.specs.Text.{Begins}
use Rattle.file_lines.specs.Lines.{header, refused_line}
use Rattle.file_output.specs.Output.{job_lines}
use Rattle.file_output.specs.Pieces.{pieces_of, piece_of, job_is, count_is, header_is, refused_is}
use Rattle.file_serving.specs.declared.sent.Sent.{Sent}
use Rattle.file_serving.specs.Sending.{file_of, Due, SameFile}

-- ---- at most 128 jobs, and the header
few_in : (file : List ℕ) (laid : Option Layout) → layout_of file ≡ laid → length (pieces_of file) ≤ 129
few_in file None e = rw (refused_is file e) (omega arith)
few_in file (Some l) e = omega (arith, count_is file l e, (kept file l e).jobs.few)

pub few : (file : List ℕ) → length (pieces_of file) ≤ 129
few file = few_in file (layout_of file) refl

-- ---- the first piece
module _ (file : List ℕ) (n due : ℕ) (d text : List ℕ) (z : due ≡ 0) where
  pub refusal_due : layout_of file ≡ None → Begins n (cond true refused_line header) d text → (due < length (pieces_of file)) × (take n text ≡ piece_of file due)
  refusal_due e b = rw (z, refused_is file e) (omega arith, b.front)

  pub header_due : (l : Layout) → layout_of file ≡ Some l → Begins n (cond false refused_line header) d text → (due < length (pieces_of file)) × (take n text ≡ piece_of file due)
  header_due l e b = (omega (arith, count_is file l e, z), rw z (b.front ∙ sym (header_is file l e)))

module _ (file : List ℕ) (l : Layout) (e : layout_of file ≡ Some l) where
  -- ---- the lines of job k are piece k + 1
  pub job_due : (n k due : ℕ) (d out : List ℕ) → due ≡ k + 1 → k < l.jobs.length / 40 → Begins n (job_lines (request_of file l) k (job_at file (l.jobs.offset + 40 * k))) d out
      → (due < length (pieces_of file)) × (take n out ≡ piece_of file due)
  job_due n k due d out z h b =
      let y : suc k ≡ due = omega arith in
      (omega (arith, count_is file l e, z), b.front ∙ sym (job_is file l e k h) ∙ ap (piece_of file) y)

  pub all_sent : (k next : ℕ) → next ≡ k + 1 → k ≡ l.jobs.length / 40 → next ≡ length (pieces_of file)
  all_sent k next z h = omega (arith, count_is file l e, z, h)

-- ---- a state, what is read of it, and the one behind it
pub read_is : (s : Sent) (n : ℕ) (bytes : List ℕ) → n ≡ s.length → bytes ≡ s.bytes → file_of s ≡ take n bytes
read_is s n bytes e d = rw (e, d) refl

pub same_file : (s t : Sent) → SameFile s t → file_of t ≡ file_of s
same_file s t h = rw (h.0, h.1) refl

-- what `send` asks of the state's own file, from the file that it is of
pub due_of : (file : List ℕ) (s : Sent) (due : ℕ) (text : List ℕ) → Due file s due → due < length (pieces_of file) → text ≡ piece_of file due
    → Due (file_of s) s due × (due < length (pieces_of (file_of s))) × (text ≡ piece_of (file_of s) due)
due_of file s due text d h e = rw d.0 ((refl, d.1, d.2, d.3), h, e)

pub next_due : (file : List ℕ) (s t : Sent) (due next : ℕ) → Due file s due → SameFile s t × (t.next ≡ s.next + 1) × (next ≡ t.next) → t.failed ≡ false → Due file t next
next_due file s t due next d h e = (same_file s t h.0 ∙ d.0, omega (arith, h.0.1, d.1), sym h.2, e)
