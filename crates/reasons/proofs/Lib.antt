pub mod Named
pub mod Keeping
pub mod Reasons
pub mod Part
pub mod Meaning
pub mod Aside
pub mod Unnamed
pub mod Standards
