pub mod Ring
pub mod Posts
pub mod Receiving
pub mod Batches
pub mod Callers
pub mod Taking
