pub mod Counting
pub mod Members
pub mod Weaker
