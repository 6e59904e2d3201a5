-- What the program prints for every file, its pieces, and the contracts of what fills them, job by job.
pub mod Output
pub mod Pieces
