pub mod Wants
pub mod Words
pub mod Keys
pub mod Lines
pub mod Beside
pub mod Language
