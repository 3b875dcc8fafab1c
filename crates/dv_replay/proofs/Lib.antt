pub mod TakingLemmas
pub mod ReplayLemmas
pub mod SurveyingLemmas
pub mod TwoRuns
pub mod EveryRun
