-- What the contracts of the model's swaption say.
pub mod Model
pub mod Demand3
