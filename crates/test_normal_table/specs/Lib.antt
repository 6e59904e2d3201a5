-- What it is to meet a row of a table, the rows of each part, and how they are counted. Definitions only.
pub mod Meet
pub mod Printed
pub mod Worked
pub mod Parts
pub mod Tally
