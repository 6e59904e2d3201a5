-- The proved cases of document 01.
pub mod Table
pub mod Limits
