-- What the contracts of a fit's objective say: market prices, and the residual at a sigma: as document 01 has it, then on what is worked ahead.
pub mod Market
pub mod Objective
pub mod Ahead
pub mod Asked
