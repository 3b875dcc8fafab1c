pub mod OpensLemmas
pub mod Moves
pub mod LeadsLemmas
