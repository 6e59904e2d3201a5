-- What document 02 asks to be so, request by request.
pub mod Asked
pub mod Intrinsic
pub mod NoPillars
pub mod AsWritten
pub mod CouponWork
pub mod BetweenPoints
pub mod JobsKept
pub mod Centred
pub mod StatedDraws
