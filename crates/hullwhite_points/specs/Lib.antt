-- What the contracts of a path's walk say; Walk is for contracts of parts below the calls only.
pub mod Path
pub mod Walk
