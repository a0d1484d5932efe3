pub mod Bag
pub mod Ranking
