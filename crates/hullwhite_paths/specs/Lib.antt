-- What the contracts of a short-rate path say: on listed draws, and on those of a seed.
pub mod Generate
pub mod Seeded
