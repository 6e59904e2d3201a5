-- What the contracts of a valuation say.
pub mod Value
