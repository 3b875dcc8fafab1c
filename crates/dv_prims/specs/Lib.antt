pub mod Tickets
pub mod Tokens
pub mod Queue
pub mod DeferredList
pub mod Laws
