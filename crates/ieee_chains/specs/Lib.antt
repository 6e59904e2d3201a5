-- What the contracts of `ieee_chains` say.
pub mod Open
pub mod Rounding
pub mod Fixed
