pub mod Asking
pub mod Judging
pub mod Finding
pub mod Giving
pub mod Steps
