-- What the functions' proofs cite.
pub mod Puts
pub mod Pricing
