-- The laws that the proofs of `file_layout` share, and, in Kept and Lists, those that a caller needs.
pub mod Filling
pub mod Walks
pub mod Conditions
pub mod Keeping
pub mod Kept
pub mod Lists
pub mod Places
pub mod Worked
