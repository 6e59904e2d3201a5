-- What the functions' proofs cite: how the rules go, and demand 3.
pub mod Outcomes
pub mod Demand3
