pub mod Added
pub mod Sums
pub mod Led
pub mod Cells
pub mod Members
pub mod Turns
pub mod Departures
pub mod Openings
