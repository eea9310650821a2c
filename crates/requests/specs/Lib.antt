pub mod Requests
pub mod Day
pub mod Promise
