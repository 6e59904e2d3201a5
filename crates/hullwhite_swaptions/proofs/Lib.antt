-- What the functions' proofs cite.
pub mod Outcomes
pub mod Demand3
