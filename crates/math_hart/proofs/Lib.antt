-- What the functions' proofs cite.
pub mod Coefficients
pub mod Chain
