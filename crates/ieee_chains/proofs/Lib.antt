-- What the functions' proofs cite.
pub mod Opening
pub mod Fixing
