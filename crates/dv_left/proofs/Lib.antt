pub mod ListsLemmas
pub mod RecordsLemmas
pub mod LeftLemmas
