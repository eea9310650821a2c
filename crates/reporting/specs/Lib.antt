pub mod Call
pub mod Promise
pub mod code
