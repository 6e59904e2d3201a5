-- When the output of a file is sent.
pub mod Sending
