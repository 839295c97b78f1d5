pub mod Repeats
pub mod Records
pub mod Slots
