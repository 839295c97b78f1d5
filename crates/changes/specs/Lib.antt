pub mod Changes
pub mod Meaning
