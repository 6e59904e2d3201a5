-- What the contracts of the pricer's formulas say, in the order of closedformhullwhiteswaptionpricer.rs.
pub mod Affine
pub mod Newton
pub mod BondOption
pub mod Components
