-- What the proofs of `file_lines` cite, the whole case worked, and that a line's text has one answer.
pub mod Worked
pub mod Says
