pub mod There
pub mod Searching
pub mod Ways
