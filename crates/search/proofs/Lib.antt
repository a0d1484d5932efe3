pub mod Accepts
pub mod Turning
