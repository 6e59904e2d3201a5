-- What the functions' proofs cite, and the laws for callers: walks along a list, a list written whole, the front of a list lent and handed back, a refusal's number.
pub mod Walks
pub mod Outcomes
pub mod CurveLaws
pub mod Order
pub mod Refusing
pub mod Filling
pub mod Lending
pub mod Numbered
