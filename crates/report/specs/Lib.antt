pub mod Values
pub mod Report
pub mod Layout
pub mod Promise
pub mod Cases
pub mod code
