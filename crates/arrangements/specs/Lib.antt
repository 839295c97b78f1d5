pub mod Arrange
pub mod Placed
pub mod Meaning
