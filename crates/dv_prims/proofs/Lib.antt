pub mod WaitingLemmas
pub mod GatherLemmas
