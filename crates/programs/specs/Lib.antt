pub mod Printed
pub mod Ran
pub mod OneChannel
