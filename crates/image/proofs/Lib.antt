pub mod First
pub mod Tried
pub mod Sound
pub mod Pasted
pub mod ReadBack
pub mod WriteBack
pub mod Promised
