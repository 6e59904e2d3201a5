-- What the contracts of kinds 1 to 4 say: the rules on their inputs, and the outcome of each call.
pub mod Rules
pub mod Options
