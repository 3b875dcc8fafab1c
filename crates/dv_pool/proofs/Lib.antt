pub mod RuleLemmas
pub mod Crossing
pub mod Places
pub mod Orders
pub mod Gathers
pub mod Kept
pub mod Routed
