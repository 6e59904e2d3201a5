-- What the functions' proofs cite.
pub mod Literals
pub mod AtMost
pub mod Floats
pub mod Ints
pub mod OddTurns
pub mod Fitting
pub mod Digits53
pub mod Unique
pub mod Splits
pub mod Exactness
