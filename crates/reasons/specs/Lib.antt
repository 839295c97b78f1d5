pub mod Reason
pub mod Meaning
pub mod Inside
