pub mod Works
pub mod Jobs
pub mod Sources
