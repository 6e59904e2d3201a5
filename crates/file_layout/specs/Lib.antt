-- What the contracts of the run file say: its bytes as numbers, when it keeps document 01's layout, the request that it then is, and the request's lists by number.
pub mod Bytes
pub mod Layout
pub mod Request
pub mod Lists
