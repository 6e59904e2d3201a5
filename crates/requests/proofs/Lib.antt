-- What document 02 asks to be so, proved: of what specs/ has under the same names.
pub mod WorkAhead
pub mod CouponWork
pub mod Intrinsic
pub mod NoPillars
pub mod BetweenPoints
pub mod Centred
pub mod StatedDraws
