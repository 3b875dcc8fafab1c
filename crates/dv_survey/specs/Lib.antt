pub mod Texts
pub mod Lines
pub mod Met
pub mod Tallies
pub mod Survey
pub mod Text
pub mod Outcomes
pub mod Laws
