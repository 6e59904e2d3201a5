-- What the contracts of the volatility fits say: the kinds 8 to 11, and demand 3.
pub mod Fits
pub mod Demand3
