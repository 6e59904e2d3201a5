-- What the functions' proofs cite.
pub mod Handing
pub mod Sending
