-- What the contracts of the draws say.
pub mod Xorshift
pub mod Draws
