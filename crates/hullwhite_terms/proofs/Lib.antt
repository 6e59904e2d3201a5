-- What the functions' proofs cite: the entries of each list, the fetch of factors; and what callers take from them: the factors fetched, and the search that a call begins.
pub mod Entries
pub mod Fetching
pub mod Fetched
pub mod Callers
pub mod OnTerms
pub mod Begun
