pub mod CallsLemmas
pub mod NextLemmas
pub mod ClockLemmas
pub mod LoopLemmas
pub mod TurnsLemmas
