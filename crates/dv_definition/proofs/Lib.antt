pub mod ConditionsHold
pub mod Through
pub mod Fires
pub mod Sayings
pub mod CasesHold
