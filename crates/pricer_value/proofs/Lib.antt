-- What the functions' proofs cite: how a pricing goes.
pub mod Pricing
