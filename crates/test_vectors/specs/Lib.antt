-- What the vectors' bytes and bits mean, and how records are counted. Definitions only.
pub mod Named
pub mod Match
pub mod Counting
