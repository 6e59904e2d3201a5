-- What the contracts of the bisection's loop say: a halving, and what follows the residual at 1e-8.
pub mod Turn
