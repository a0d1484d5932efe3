pub mod Checked
pub mod Chosen
pub mod Deciding
pub mod Reached
pub mod Searched
pub mod Written
