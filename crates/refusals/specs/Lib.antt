-- What the contracts of the lists say: refusals and outcomes, the order of the rules, checks, and the faults of each list.
pub mod Refusals
pub mod Order
pub mod Checks
pub mod Faults
