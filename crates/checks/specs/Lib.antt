pub mod Check
pub mod Positions
pub mod Meaning
