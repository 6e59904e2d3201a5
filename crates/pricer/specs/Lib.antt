-- What the contracts of the pricer say: kinds 6 and 7, and demand 3.
pub mod Pricer
pub mod Demand3
