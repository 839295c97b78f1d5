pub mod Meaning
pub mod Listing
pub mod Aside
pub mod Standards
