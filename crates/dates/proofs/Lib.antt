pub mod Shapes
pub mod Stamps
pub mod Months
pub mod OneOutcome
