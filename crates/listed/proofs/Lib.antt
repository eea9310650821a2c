pub mod Taking
pub mod Pieces
pub mod Rows
pub mod Sections
pub mod Members
pub mod Whole
pub mod OneOutcome
