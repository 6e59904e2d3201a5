-- What the functions' proofs cite.
pub mod ReachedLaws
pub mod Walks
