pub mod Format
pub mod Written
pub mod Promises
pub mod Reader
