pub mod Book
pub mod Lines
pub mod Agreement
pub mod Theorems
