pub mod Reply
pub mod Replied
pub mod Promise
pub mod Cases
pub mod code
