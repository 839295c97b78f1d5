pub mod Channels
pub mod Classes
pub mod Columns
pub mod TableA
pub mod Lesser
pub mod Standards
pub mod Separations
pub mod Reading
