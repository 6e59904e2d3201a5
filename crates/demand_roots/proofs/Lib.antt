-- Demand 3 of every file, proved: of what is told, and of what is printed.
pub mod Results
pub mod Demand3
