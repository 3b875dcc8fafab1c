pub mod CallbacksLemmas
pub mod ChainLaws
pub mod ChainLemmas
pub mod StoreLemmas
