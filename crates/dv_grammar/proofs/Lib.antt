pub mod Steps
pub mod WordsLemmas
pub mod Leaves
pub mod Actions
pub mod Events
pub mod Repeats
pub mod Outlines
pub mod Scripts
