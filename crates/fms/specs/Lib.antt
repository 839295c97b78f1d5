pub mod Packed
pub mod Reason
