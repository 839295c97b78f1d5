pub mod Pair
pub mod Meaning
pub mod Points
pub mod Limits
pub mod Reaching
