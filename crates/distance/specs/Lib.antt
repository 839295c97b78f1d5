pub mod Distance
pub mod Meridian
pub mod Bounds
