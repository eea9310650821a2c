pub mod Kept
pub mod code
