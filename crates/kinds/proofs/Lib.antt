pub mod Values
pub mod Decimals
pub mod Cases
pub mod OneOutcome
