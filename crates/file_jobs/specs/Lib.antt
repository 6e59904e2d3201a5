-- What is told of a job of kinds 1 to 11, and of kinds 5 to 11 all that its call returns.
pub mod Results
pub mod Worked
