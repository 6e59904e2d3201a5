-- What the contracts of a fit say: its answer, the bisection, the sigmas it tries, and demand 3.
pub mod Result
pub mod Solve
pub mod Tried
pub mod Demand3
