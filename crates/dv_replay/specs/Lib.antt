pub mod Replay
pub mod Exit
pub mod Laws
pub mod Surveying
