pub mod Tells
pub mod Pieces
