pub mod Classes
pub mod Whole
mod Cut
