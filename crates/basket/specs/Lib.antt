-- What the contracts of a basket of caplets say.
pub mod Basket
pub mod Lent
pub mod Demand3
