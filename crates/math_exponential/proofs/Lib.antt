-- What the functions' proofs cite.
pub mod Powers
pub mod Turns
pub mod Nearest
pub mod Range
pub mod Limits
pub mod Rounding
