pub mod Texts
pub mod Told
