-- What the contracts of `ieee` say, and the words in which every crate above writes its formulas.
pub mod Rounded
pub mod Decimal
pub mod Numbers
pub mod Same
pub mod Rows
pub mod Fused
pub mod WholeRoot
pub mod Sqrt
-- for contracts of parts below the calls only, as is `sticky_root` at the end of WholeRoot
pub mod Terms
