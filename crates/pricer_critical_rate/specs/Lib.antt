-- What the contracts of the critical rate's calls say, and demand 3.
pub mod Find
pub mod Implicit
pub mod Demand3
