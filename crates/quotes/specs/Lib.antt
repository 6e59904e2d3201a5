-- What the contracts of utils.rs say: its formulas on plain numbers; of its calls the rules on their inputs, and the outcome of each.
pub mod Formulas
pub mod Rules
pub mod Utils
