-- What the contracts of `search_sum` say.
pub mod Sum
