pub mod Parts
pub mod Events
pub mod Lines
