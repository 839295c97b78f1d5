pub mod Ways
pub mod Aside
pub mod Standards
