pub mod Acting
pub mod Beginning
pub mod TurnEnds
pub mod Settling
pub mod Turning
pub mod Meaning
pub mod Laws
pub mod Defined
