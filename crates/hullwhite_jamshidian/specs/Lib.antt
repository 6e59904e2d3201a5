-- What the contracts of the model's swaption at a sigma say, and the sum that its search evaluates: as document 01 has them, then on what is worked ahead.
pub mod PricedSum
pub mod Price
pub mod Ahead
