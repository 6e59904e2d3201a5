-- What the functions' proofs cite, and a few numbers worked.
pub mod Digits
pub mod Lanes
pub mod Spelling
pub mod Writing
pub mod Worked
