-- Demand 3 of every file, to the bytes that are printed: what a line with answer 0 rests on, and where a line says 10. "Once kinds 5 to 11 and the basket run, demand 3 is owed, all of it."
use Rattle.std.specs.Prelude.{◌≡◌, ◌↔◌, ℕ, suc, ◌+◌, ◌*◌, ◌/◌, ◌≤◌, ◌<◌, length, Ok, Some, None}
use mathlib.Core.List.{List, Memᴰ}
use Rattle.file_layout.specs.declared.parts.Layout.{Layout}
use Rattle.file_layout.specs.declared.records.Job.{Job}
use Rattle.file_layout.specs.Layout.{layout_of}
use Rattle.file_layout.specs.Request.{Request, request_of, job_at}
use Rattle.file_fields.specs.Fields.{bits_of}
use Rattle.file_lines.specs.Lines.{header, refused_line, line_of}
use Rattle.file_lines.specs.Says.{Says}
use Rattle.demand_roots.specs.Owed.{Owed, owed_of}
use Rattle.file_output.specs.Output.{output_of}
use Rattle.file_output.specs.Pieces.{pieces_of, piece_of, joined}

-- a line with answer 0: there is a valuation or a fit that the job's call gives, the line is that of its own value and note, and the whole of what its kind owes holds of it
pub record AcceptedLine (owed : Owed) (k kind : ℕ) (line : List ℕ) : Type 0 where
  pub given : owed.Given
  pub is : owed.outcome ≡ Ok given
  pub own : line ≡ line_of k kind 0 (bits_of (owed.value given)) (owed.note given)
  pub facts : owed.Facts given

-- the line of job k, of kinds 1 to 11
pub record LineHolds (owed : Owed) (k kind : ℕ) (line : List ℕ) : Type 0 where
  -- "In demand 3, accepted means answer 0"
  pub accepted : Says line 0 → AcceptedLine owed k kind line
  -- 10 is printed exactly where a search that was begun wants a bracket, and so never where none is begun: kinds 1 to 4, 8 and 9
  pub no_bracket : Says line 10 ↔ owed.Wants

-- a line of a path, kind 12 or 13, which begins no search
pub record PathLine (k kind : ℕ) (line : List ℕ) : Type 0 where
  pub answer : ℕ
  pub bits : ℕ
  pub note : ℕ
  pub is : line ≡ line_of k kind answer bits note
  pub never : Says line 10 → ⊥

-- "A served path prints a line a grid point"; else there is one
pub record PathHolds (k kind : ℕ) (text : List ℕ) : Type 0 where
  pub lines : List (List ℕ)
  pub whole : joined lines ≡ text
  pub each : (line : List ℕ) → Memᴰ line lines → PathLine k kind line

-- job k of a file, and the text printed for it
pub record JobHolds (q : Request) (k : ℕ) (j : Job) (text : List ℕ) : Type 0 where
  -- "another kind breaks the layout"
  pub kinds : (1 ≤ j.kind) × (j.kind ≤ 13)
  pub line : j.kind ≤ 11 → LineHolds (owed_of q j) k j.kind text
  pub path : 12 ≤ j.kind → PathHolds k j.kind text

-- "prints `job kind answer value note`, then a line a job": the text of job k is piece k + 1 of what is printed
pub record FileDemand3 (file : List ℕ) : Type 0 where
  pub whole : joined (pieces_of file) ≡ output_of file
  pub broken : layout_of file ≡ None → output_of file ≡ refused_line
  -- the header first, then a piece a job, and none behind them
  pub first : (l : Layout) → layout_of file ≡ Some l → piece_of file 0 ≡ header
  pub count : (l : Layout) → layout_of file ≡ Some l → length (pieces_of file) ≡ suc (l.jobs.length / 40)
  pub jobs : (l : Layout) → layout_of file ≡ Some l → (k : ℕ) → k < l.jobs.length / 40 → JobHolds (request_of file l) k (job_at file (l.jobs.offset + 40 * k)) (piece_of file (suc k))
