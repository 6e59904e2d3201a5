-- What the functions' proofs cite: the annuity and the residual; and what a fit's proofs do: the objective worked ahead, and the search behind it.
pub mod Annuity
pub mod Residuals
pub mod Worked
pub mod Searches
pub mod Finished
