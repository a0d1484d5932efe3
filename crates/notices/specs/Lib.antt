pub mod Slots
pub mod Refused
pub mod Layer
