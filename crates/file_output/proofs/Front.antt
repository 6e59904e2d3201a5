-- What a buffer holds that a piece of the output is written to. Assumes nothing.
use mathlib.Core.Path.{◌≡◌, refl, sym}
use mathlib.Core.Bool.{true, false, cond}
use mathlib.Core.List.{List, [], ◌∷◌}
use Prim.Native.Nat.{ℕ, suc, ◌+◌, ◌*◌, ◌/◌, ◌≤◌, ◌<◌}
use native.Mathlib.Omega.{arith}
use lib.ListN.{get_or-eq_default}
use Rattle.std.specs.Prelude.{Some, None}
use Rattle.file_layout.specs.declared.parts.Layout.{Layout}
use Rattle.file_layout.specs.Layout.{layout_of}
use Rattle.file_layout.specs.Request.{request_of, job_at}
use Rattle.file_fields.specs.Text.{Begins}
use Rattle.file_lines.specs.Lines.{header, refused_line}
use Rattle.file_output.specs.Output.{job_lines}
use Rattle.file_output.specs.Pieces.{pieces_of, piece_of, job_is, count_is, header_is, refused_is}

-- no bytes: nothing is written
pub none : (text d : List ℕ) → text ≡ [] → Begins 0 text d d
none text d e = rw e (record { counted = refl; within = omega arith; front = refl; rest = refl; part = refl })

module _ (file : List ℕ) (e : layout_of file ≡ None) where
  pub refusal_piece : (n k : ℕ) (d out : List ℕ) → k ≡ 0 → Begins n (cond true refused_line header) d out → Begins n (piece_of file k) d out
  refusal_piece n k d out z b = rw (z, refused_is file e) b

  pub behind_refusal : (k : ℕ) → (k ≡ 0 → ⊥) → piece_of file k ≡ []
  behind_refusal k z = rw (refused_is file e) (get_or-eq_default (refused_line ∷ []) [] {n = k} (omega (arith, z)))

module _ (file : List ℕ) (l : Layout) (e : layout_of file ≡ Some l) where
  pub header_piece : (n k : ℕ) (d out : List ℕ) → k ≡ 0 → Begins n (cond false refused_line header) d out → Begins n (piece_of file k) d out
  header_piece n k d out z b = rw (z, header_is file l e) b

  pub job_piece_is : (n k : ℕ) (d out : List ℕ) → k < l.jobs.length / 40 → Begins n (job_lines (request_of file l) k (job_at file (l.jobs.offset + 40 * k))) d out → Begins n (piece_of file (suc k)) d out
  job_piece_is n k d out h b = rw (job_is file l e k h) b

  pub behind_jobs : (k : ℕ) → l.jobs.length / 40 ≤ k → piece_of file (suc k) ≡ []
  behind_jobs k h = get_or-eq_default (pieces_of file) [] {n = suc k} (omega (arith, count_is file l e, h))

  -- the piece of a job, by its own number
  pub by_number : (n k : ℕ) (d out : List ℕ) (j : ℕ) → suc j ≡ k → Begins n (piece_of file (suc j)) d out → Begins n (piece_of file k) d out
  by_number n k d out j z b = rw (sym z) b
