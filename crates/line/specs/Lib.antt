pub mod Line
pub mod Promise
