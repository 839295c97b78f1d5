pub mod Symmetry
pub mod Rule
pub mod Facts
pub mod Chosen
