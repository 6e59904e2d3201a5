-- What the functions' proofs cite: the decimal constants, the walks along the terms, the entries of A.
pub mod Literals
pub mod Walks
pub mod Entries
