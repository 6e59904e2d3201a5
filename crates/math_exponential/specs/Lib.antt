-- What the contracts of exp, exp_m1 and norm_pdf say, in the order of document 01.
pub mod Exp
pub mod ExactCases
pub mod Density
