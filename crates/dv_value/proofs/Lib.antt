pub mod DigitLemmas
pub mod Names
pub mod Paths
pub mod Quoted
pub mod StackLemmas
