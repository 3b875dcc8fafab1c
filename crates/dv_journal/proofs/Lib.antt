pub mod Taken
pub mod JournalLemmas
pub mod WeightLemmas
