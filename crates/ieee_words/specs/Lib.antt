-- What the contracts of `ieee_words` say.
pub mod Words
