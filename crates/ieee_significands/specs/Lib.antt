-- What the contracts of `ieee_significands` say.
pub mod Parts
