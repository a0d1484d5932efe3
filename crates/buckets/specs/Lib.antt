pub mod Bitmap
pub mod Chains
pub mod Pour
pub mod InBuckets
pub mod Nearest
