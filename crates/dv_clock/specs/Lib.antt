pub mod Due
pub mod Clock
pub mod LoopingCall
pub mod Turns
pub mod Laws
