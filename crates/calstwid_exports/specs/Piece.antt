-- A piece of what the program prints for a file, written to a lent list of bytes.
use Rattle.std.specs.Prelude.{cond, List, ℕ, ltb, Ok, Err}
use Rattle.refusals.specs.declared.refusals.Refusal.TheVariants as R
use Rattle.refusals.specs.Refusals.{Outcome}
use Rattle.file_output.specs.Pieces.{piece_of}

-- rule 1: "an output is shorter than its grid", a piece's grid being one of 1,024 points, 128 bytes for each
abbrev pub piece_outcome : List ℕ → ℕ → ℕ → Outcome (List ℕ)
piece_outcome file k room = cond (ltb room 131072) (Err R.Size) (Ok (piece_of file k))
