-- What the contracts of the rules over a basket's entries say.
pub mod Entries
