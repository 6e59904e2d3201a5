-- What the proofs cite, here and in the crates above: the tolerance's literal, rule 13, signs, the bisection a step at a time, objectives that agree, and demand 3 of every fit.
pub mod Literals
pub mod Finishing
pub mod Signs
pub mod Steps
pub mod Agree
pub mod Demand3
