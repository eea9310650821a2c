pub mod Cases
pub mod Replied
pub mod Sent
pub mod ReplyPromises
pub mod Promise
pub mod OneOutcome
