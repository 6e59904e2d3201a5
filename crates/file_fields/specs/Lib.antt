-- What the contracts of a line's fields say.
pub mod Text
pub mod Fields
