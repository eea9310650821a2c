pub mod Duplicates
pub mod Day
pub mod Promise
