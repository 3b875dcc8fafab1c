pub mod NamesLemmas
pub mod InlinesLemmas
