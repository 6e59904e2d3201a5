-- What a line says, as bytes alone.
use Rattle.std.specs.Prelude.{◌≡◌, List, ℕ}
use Rattle.file_lines.specs.Lines.{line_of}

-- the text is that of a line with this answer, whatever its other fields
pub record Says (text : List ℕ) (answer : ℕ) : Type 0 where
  pub job : ℕ
  pub kind : ℕ
  pub bits : ℕ
  pub note : ℕ
  pub is : text ≡ line_of job kind answer bits note
