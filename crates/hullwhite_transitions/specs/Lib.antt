-- What the contract of the transition variances says, and that of the writing of any worked list.
pub mod Written
pub mod Transition
