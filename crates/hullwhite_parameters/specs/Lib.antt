-- What the contracts of parameters.rs say: the variance on plain lists; of its calls the rules on their inputs, and the outcome of each.
pub mod Variance
pub mod Rules
pub mod Parameters
