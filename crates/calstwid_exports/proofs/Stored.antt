-- What a lent list of bytes holds that a piece was asked for. Assumes nothing.
use Rattle.std.specs.Prelude.{Ok, Err}
use mathlib.Core.Path.{◌≡◌, refl, sym, ◌∙◌, ap}
use mathlib.Core.List.{List, ◌++◌}
use Prim.Native.Nat.{ℕ, ◌≤◌, ◌<◌}
use borrow.Author.Tests.{lt-ltb, le-ltb}
use lib.ListN.{length, drop, take-append-drop}
use Rattle.refusals.specs.declared.refusals.Refusal.TheVariants as R
use Rattle.hullwhite_transitions.specs.Written.{stored_of}
use Rattle.file_fields.specs.Text.{Begins}
use Rattle.file_output.specs.Pieces.{piece_of}
use Rattle.calstwid_exports.specs.declared.reports.CountReport.{CountReport}
use Rattle.calstwid_exports.specs.Reports.{count_report_of, count_told}
use Rattle.calstwid_exports.specs.Piece.{piece_outcome}

-- a text at the front, and the rest as it was
begun : (n : ℕ) (text d out : List ℕ) → Begins n text d out → out ≡ text ++ drop (length text) d
begun n text d out b =
    sym (take-append-drop n out) ∙ (ap (λ (x : List ℕ). x ++ drop n out) b.front ∙ (ap (λ (x : List ℕ). text ++ x) b.rest ∙ ap (λ (m : ℕ). text ++ drop m d) b.counted))

module _ (file : List ℕ) (k : ℕ) (d : List ℕ) (r : CountReport) where
  -- no room: nothing is written
  pub short : length d < 131072 → r ≡ count_told (Err R.Size) 0 → (r ≡ count_report_of (piece_outcome file k (length d))) × (d ≡ stored_of (piece_outcome file k (length d)) d)
  short h e = rw (lt-ltb _ _ h) (e, refl)

  pub stored : (n : ℕ) (out : List ℕ) → 131072 ≤ length d → Begins n (piece_of file k) d out → r ≡ count_told (Ok tt) n → (r ≡ count_report_of (piece_outcome file k (length d))) × (out ≡ stored_of (piece_outcome file k (length d)) d)
  stored n out h b e = rw (le-ltb _ _ h) (e ∙ ap (count_told (Ok tt)) b.counted, begun n (piece_of file k) d out b)
