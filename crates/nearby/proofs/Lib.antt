pub mod Channels
pub mod Noting
pub mod Noted
