-- What the functions' proofs cite, from the line of f64 up to the answer of the search.
pub mod Near
pub mod Narrowing
pub mod Iterates
pub mod Run
pub mod Place
pub mod Middle
pub mod Law
pub mod HalvingLaw
pub mod LadderSteps
pub mod HalvingSteps
pub mod Every
pub mod Joining
pub mod Demand3
pub mod Reaching
pub mod Answers
