-- What the contracts of `search` say, in the order of document 01.
pub mod Line
pub mod Halving
pub mod Rate
pub mod Values
pub mod Reached
pub mod Facts
