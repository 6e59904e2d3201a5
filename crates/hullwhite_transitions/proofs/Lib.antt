-- What the functions' proofs cite.
pub mod Walks
pub mod Outcomes
