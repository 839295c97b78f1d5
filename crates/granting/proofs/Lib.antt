pub mod Splicing
pub mod Lists
