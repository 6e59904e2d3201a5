-- The proved cases of document 01, row by row.
pub mod Table
