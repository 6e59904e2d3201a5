-- What the functions' proofs cite: the literals, the residuals that are met, and a halving of the loop.
pub mod Literals
pub mod Residuals
pub mod Turning
