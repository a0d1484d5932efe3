pub mod Tree
pub mod Ends
