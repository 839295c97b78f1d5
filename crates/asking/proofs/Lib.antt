pub mod Inputs
pub mod Fitting
pub mod OneByOne
pub mod Longer
