-- What the contracts of the printed lines say, and what a line says.
pub mod Lines
pub mod Says
