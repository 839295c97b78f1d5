pub mod Marks
pub mod Bands
