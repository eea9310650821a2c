pub mod Call
pub mod Run
pub mod Promise
