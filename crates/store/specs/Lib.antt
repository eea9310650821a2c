pub mod Store
pub mod Plan
pub mod Cases
pub mod Promise
pub mod code
