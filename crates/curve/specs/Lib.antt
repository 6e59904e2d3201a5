-- What the contracts of the lookups say.
pub mod Lookups
