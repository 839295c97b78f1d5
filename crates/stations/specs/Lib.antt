pub mod Lists
pub mod Image
pub mod Scanning
pub mod Encode
pub mod Copying
pub mod Meaning
