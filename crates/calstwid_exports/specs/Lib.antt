-- What a program in another language is told of every outcome.
pub mod Piece
pub mod Reports
pub mod OneAnswer
