-- What the functions' proofs cite, and, in Served, what a caller knows of a path.
pub mod Starts
pub mod Outcomes
pub mod Served
