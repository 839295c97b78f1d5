pub mod Studies
pub mod Passed
