pub mod Ended
pub mod Text
pub mod Gathered
pub mod Lines
pub mod Replayed
pub mod Exit
