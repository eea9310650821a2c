pub mod Lines
pub mod Hosted
pub mod Sparing
pub mod Promise
pub mod OneOutcome
