pub mod Single
pub mod Tallies
pub mod Rowing
pub mod Going
