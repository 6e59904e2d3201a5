-- What the functions' proofs cite: how a call comes out, and demand 3.
pub mod Outcomes
pub mod Demand3
