pub mod Scene
pub mod Flags
pub mod Planning
