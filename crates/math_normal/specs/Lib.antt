-- What the contracts of the normal functions say; Limits has laws of the definitions, and Turns is for private functions' contracts only.
pub mod NormCdf
pub mod Between
pub mod AsWritten
pub mod Limits
pub mod Turns
