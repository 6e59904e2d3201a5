-- What the contracts of the terms say; and what those of the calls that search on them do.
pub mod Terms
pub mod Swaption
pub mod Begun
