pub mod Neighbours
pub mod Inside
