pub mod Back
pub mod Promise
pub mod code
