pub mod Border
pub mod Calls
pub mod Promise
