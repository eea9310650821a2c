pub mod Tags
pub mod Call
pub mod Promise
pub mod Cases
pub mod code
