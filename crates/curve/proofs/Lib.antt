-- What the functions' proofs cite, and the laws for callers.
pub mod Walks
pub mod Outcomes
pub mod Laws
pub mod Halves
pub mod Factors
