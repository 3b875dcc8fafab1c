pub mod Limits
pub mod Refusal
pub mod Laws
pub mod Passes
pub mod Texts
pub mod Times
