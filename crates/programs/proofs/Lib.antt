pub mod Printing
pub mod Arranging
pub mod Longer
