pub mod Fits
pub mod Kinds
pub mod Nodes
pub mod Places
pub mod Tokens
pub mod View
