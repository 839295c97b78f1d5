pub mod Blank
pub mod Movers
pub mod Positions
pub mod Unique
pub mod Meaning
pub mod Aside
pub mod Standards
