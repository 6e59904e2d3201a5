-- What the functions' proofs cite.
pub mod Literals
pub mod Turning
pub mod Joining
pub mod NonNeg
pub mod Hart
pub mod Self
pub mod Quotient
pub mod Tails
pub mod Sizes
pub mod Powers
pub mod Reduce
pub mod Between
pub mod FusedSteps
pub mod AsWritten
pub mod Fraction
