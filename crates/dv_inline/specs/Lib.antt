pub mod Meaning
pub mod Position
pub mod Leads
pub mod Parked
pub mod Laws
