pub mod Rules
pub mod Worker
pub mod Parts
pub mod Reply
pub mod Pool
pub mod Routes
