pub mod Series
pub mod Cosines
pub mod Meridian
pub mod Sites
pub mod Squares
pub mod Rounding
pub mod Nearby
