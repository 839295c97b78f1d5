pub mod Answers
pub mod Asked
pub mod Questions
pub mod Points
