pub mod Source
pub mod MemorySource
