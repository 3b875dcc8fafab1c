pub mod Turn
pub mod Bounds
pub mod Raising
pub mod Frames
pub mod Finding
