pub mod Time
pub mod Later
pub mod Promise
pub mod code
