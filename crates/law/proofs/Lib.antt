pub mod Counting
pub mod Fronts
pub mod Reports
pub mod Searching
pub mod Telling
pub mod Books
