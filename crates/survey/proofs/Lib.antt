pub mod Records
pub mod Shorts
pub mod Studied
pub mod Frames
