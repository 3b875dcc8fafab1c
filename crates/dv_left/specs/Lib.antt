pub mod Lists
pub mod Hanging
pub mod Left
pub mod Linking
pub mod Remains
