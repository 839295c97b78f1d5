pub mod Conflicts
pub mod Asking
