-- What the functions' proofs cite.
pub mod Counted
pub mod Stored
pub mod Zeros
