-- What the contracts of the formulas say.
pub mod HullWhite
