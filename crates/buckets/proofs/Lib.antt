pub mod Bits
pub mod Walks
pub mod Pours
pub mod Places
pub mod Fronts
