-- What the contracts of Hart's polynomials say; Sized is for contracts of parts below the calls only.
pub mod Polynomials
pub mod Sized
