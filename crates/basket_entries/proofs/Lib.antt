-- What the functions' proofs, and those of a basket, cite: one turn of a walk along the entries.
pub mod Walks
