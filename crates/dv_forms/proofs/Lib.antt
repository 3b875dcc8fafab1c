pub mod RowLemmas
pub mod Members
pub mod Subs
