-- What the functions' proofs cite: a fit on what is worked ahead, how a fit comes out, and demand 3.
pub mod Worked
pub mod Outcomes
pub mod Demand3
