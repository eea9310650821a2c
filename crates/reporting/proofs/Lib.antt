pub mod Gates
pub mod Sends
pub mod OneOutcome
pub mod Promise
