-- What the contracts of the elementary functions say, but for exp and what is built on it.
pub mod Constants
pub mod Simple
pub mod Ln
-- for private functions' contracts only
pub mod Units
