pub mod Lines
pub mod Parts
pub mod Cuts
pub mod Texts
pub mod Ending
pub mod ReplayEnding
