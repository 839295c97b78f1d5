pub mod Guard
pub mod Lists
pub mod Rows
pub mod Writing
pub mod Puts
pub mod Passing
pub mod Signed
