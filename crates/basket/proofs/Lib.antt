-- What the functions' proofs cite: the literals, one entry's fit, the fits and the bumped fits so far, the lent lists, how a basket comes out, and demand 3.
pub mod Literals
pub mod Held
pub mod Fitting
pub mod Bumping
pub mod Lending
pub mod Outcomes
pub mod Demand3
