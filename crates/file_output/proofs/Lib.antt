-- What the functions' proofs cite, and, in Lists, what a caller does.
pub mod Front
pub mod Lists
pub mod Points
pub mod Written
