pub mod Seen
pub mod Puts
pub mod Counts
pub mod Cells
pub mod Running
pub mod Opening
pub mod Theorems
