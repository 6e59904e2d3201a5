-- The laws of specs/, and what each call meets.
pub mod Order
pub mod Stages
pub mod Steps
pub mod Calls
pub mod Searches
pub mod Evaluations
pub mod Grounds
