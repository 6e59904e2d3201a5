-- In what order, and on what grounds, calls are refused.
pub mod Order
pub mod Stages
pub mod Steps
pub mod Calls
pub mod Searches
pub mod Evaluations
pub mod Grounds
