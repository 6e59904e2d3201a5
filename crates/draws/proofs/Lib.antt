-- What the functions' proofs cite, and what callers may use of steps, sums and draws.
pub mod Steps
pub mod Sums
pub mod Exact
pub mod Lists
