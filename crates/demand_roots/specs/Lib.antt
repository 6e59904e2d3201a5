-- Demand 3 of every file: what each kind owes, and what of it is told and printed.
pub mod Owed
pub mod Demand3
