-- The laws that the proofs of `ieee_significands`, `ieee` and `ieee_chains` cite; each file opens with what it states.
pub mod Rounding
pub mod Packing
pub mod Unpacking
