-- What the contracts of the model's calls that are no kind say: the rules on the inputs of each sort of call, and the outcome of each call.
pub mod Rules
pub mod Curves
