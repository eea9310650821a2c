pub mod Records
pub mod Keeping
pub mod Filling
pub mod OneOutcome
