pub mod Visible
pub mod Added
pub mod EntryAdded
pub mod Ends
pub mod Marks
